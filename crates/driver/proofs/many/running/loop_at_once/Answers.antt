-- Each worker has left after its work.
use Rattle.std.proofs.Common.{rules, ◌≡◌, length, drop, slice_index_or, subst, sym}
use Rattle.std.proofs.lemmas.List.{take_at}
use Rattle.exchange.specs.Worlds.{world_of}
use Rattle.run_loop.specs.Moments.{TakesTimed}
use Rattle.driver.specs.ManyWork.{AllBegin, LoopsFrom, HaveLooped}
use Rattle.driver.proofs.ManyWork.{all_loop}
use Rattle.driver.proofs.many.running.loop_at_once.Goals as goal

pub returns-clause-looped : goal.returns-clause-looped
returns-clause-looped g c =
    let names = g.N.Names.names in
    let world = world_of g.W.Wire.untouched g.W.Wire.happened (g.T.Clock.tells c.args.common.now.timer.now) in
    let may_stop = g.T.Timer.may_stop c.args.common.now.timer.now in
    let job_at = g.S.JobSource.job_at c.args.common.now.source.now in
    let took = TakesTimed (g.T.MicroClock.tells_micros c.args.common.now.timer.now) g.F.Results.took in
    let claim = c.args.common.now.claim.now in
    let new = c.for_each_mut.new.s in
    let old = c.deref_mut.result.now in
    let items = c.args.workers.now.items in
    let is : old ≡ items = search rules in
    let long : length new ≡ c.args.workers.now.len = search rules in
    let same : length new ≡ length old = search rules in
    λ begun begins.
    let looped : HaveLooped world may_stop names job_at took claim begun new =
    all_loop world may_stop names job_at took claim begun old new (subst (AllBegin begun) (sym is) begins) same (λ place other there.
    let at = (c.for_each_mut.ensures place other there).1 in
    subst (λ w. LoopsFrom world may_stop names job_at took claim w (slice_index_or new place other)) at.argument_is
    (subst (λ w. LoopsFrom world may_stop names job_at took claim at.argument.now w) at.left at.call)) in
    subst (HaveLooped world may_stop names job_at took claim begun) (sym (take_at new (drop (length new) items) c.args.workers.now.len long)) looped
