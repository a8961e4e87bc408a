-- All that workers leave is gathered.
use Rattle.std.proofs.Common.{reverse, subst}
use Rattle.std.proofs.lemmas.List.{reverse-reverse}
use Rattle.exchange.specs.Dialling.{failed_turns}
use Rattle.exchange.specs.Worlds.{world_of}
use Rattle.run_loop.specs.Moments.{TakesTimed}
use Rattle.driver.specs.ManyWork.{IsManyRun, handed_in, handed_back}
use Rattle.driver.proofs.many.running.run_many.Goals as goal

pub gather_work-requires-clause-left : goal.gather_work-requires-clause-left
gather_work-requires-clause-left g c =
    let begun = reverse (handed_in (failed_turns g.D.Dial.shown) c.args.tools.items) in
    (begun, c.loop_at_once.ensures.looped begun c.in_ok-claim.ensures.begun)

pub returns-clause-ok : goal.returns-clause-ok
returns-clause-ok g c =
    let names = g.N.Names.names in
    let world = world_of g.W.Wire.untouched g.W.Wire.happened (g.T.Clock.tells c.args.timer.now) in
    let may_stop = g.T.Timer.may_stop c.args.timer.now in
    let job_at = g.S.JobSource.job_at c.args.source.now in
    let failures = failed_turns g.D.Dial.shown in
    let handed = handed_in failures c.args.tools.items in
    let begun = reverse handed in
    let report = c.gather_work.result in
    let claim = c.in_ok-claim.field-0.claim in
    let took = TakesTimed (g.T.MicroClock.tells_micros c.args.timer.now) g.F.Results.took in
    let runs = c.gather_work.ensures.gathers begun (c.loop_at_once.ensures.looped begun c.in_ok-claim.ensures.begun) in
    subst (λ jobs. IsManyRun world may_stop names job_at took jobs handed (handed_back failures report.workers.items) report.end report.drawn) c.in_ok-claim.ensures.jobs
    (subst (λ l. IsManyRun world may_stop names job_at took claim.jobs l (handed_back failures report.workers.items) report.end report.drawn) (reverse-reverse handed) runs)
