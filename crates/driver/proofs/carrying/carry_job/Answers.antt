-- A job is carried out by the job runner, and the worker answers how it ended, or why it gives up.
use Rattle.std.proofs.Common.{rules, ◌≡◌, slice_index_or, sym, subst, ap, IfOk, ℕ}
use Rattle.std.specs.Prelude.{slice_get, Some, Ok, Result}
use Rattle.std.proofs.lemmas.Option.{slice_get-get_or}
use Rattle.exchange.specs.Dialling.{failed_turns}
use Rattle.exchange.specs.declared.done.Done.{Done}
use Rattle.exchange.specs.Worlds.{world_of}
use Rattle.exchange.specs.Carrying.{RunsJob, CarriesOut, EndsItsDials, CountsStop}
use Rattle.driver.specs.declared.quit.Quit.{Quit}
use Rattle.driver.specs.Quits.{MayStop, QuitsOn, answer_at}
use Rattle.driver.specs.Results.{IsResultAt, IsResultOf, CarriesOutAt}
use Rattle.driver.proofs.Carried.{answered_is, answered_carried, answered_turns, answered_at, at_number}
use Rattle.driver.proofs.carrying.carry_job.Goals as goal

pub returns-clause-ok : goal.returns-clause-ok
returns-clause-ok g c =
    let world = world_of g.W.Wire.untouched g.W.Wire.happened (g.K.Clock.tells c.args.shared.now.clock.now) in
    let number = c.args.number in
    let may_stop = g.G.Gate.may_stop c.args.shared.now.gate.now in
    let job = slice_index_or c.args.shared.now.jobs.now number c.index-shared-number.result in
    let at : slice_get c.args.shared.now.jobs.now number ≡ Some job = slice_get-get_or c.args.shared.now.jobs.now number c.index-shared-number.result c.requires.there in
    let runs : RunsJob g.C.Cache.did world (MayStop (may_stop number)) job c.args.cache.now c.run.new.cache c.in-Ok.ran = search rules in
    subst (λ (answered : Result Done Quit). IfOk answered (IsResultAt world may_stop c.args.shared.now.jobs.now number)) (sym c.answer.ensures)
    (answered_at (IsResultOf world (may_stop number)) c.args.shared.now.jobs.now number job at (answer_at c.in-Ok.ran.done c.in-Ok.ran.stop)
    (answered_is g.C.Cache.did world (may_stop number) job c.args.cache.now c.run.new.cache c.in-Ok.ran.done c.in-Ok.ran.stop runs.carried runs.stops))

pub returns-clause-carried : goal.returns-clause-carried
returns-clause-carried g c =
    let world = world_of g.W.Wire.untouched g.W.Wire.happened (g.K.Clock.tells c.args.shared.now.clock.now) in
    let number = c.args.number in
    let may_stop = g.G.Gate.may_stop c.args.shared.now.gate.now in
    let job = slice_index_or c.args.shared.now.jobs.now number c.index-shared-number.result in
    let at : slice_get c.args.shared.now.jobs.now number ≡ Some job = slice_get-get_or c.args.shared.now.jobs.now number c.index-shared-number.result c.requires.there in
    let runs : RunsJob g.C.Cache.did world (MayStop (may_stop number)) job c.args.cache.now c.run.new.cache c.in-Ok.ran = search rules in
    subst (λ (answered : Result Done Quit). IfOk answered (CarriesOutAt g.C.Cache.did world c.args.shared.now.jobs.now number c.args.cache.now c.run.new.cache)) (sym c.answer.ensures)
    (answered_at (λ job done. CarriesOut g.C.Cache.did world job c.args.cache.now c.run.new.cache done) c.args.shared.now.jobs.now number job at (answer_at c.in-Ok.ran.done c.in-Ok.ran.stop)
    (answered_carried g.C.Cache.did world job c.args.cache.now c.run.new.cache c.in-Ok.ran.done c.in-Ok.ran.stop runs.carried))

pub returns-clause-turns : goal.returns-clause-turns
returns-clause-turns g c =
    let counts : CountsStop c.in-Ok.ran.stop (failed_turns g.D.Dial.shown c.args.dial.now) (failed_turns g.D.Dial.shown c.run.new.dial) = search rules in
    subst (λ (answered : Result Done Quit). QuitsOn answered (failed_turns g.D.Dial.shown c.args.dial.now) (failed_turns g.D.Dial.shown c.run.new.dial)) (sym c.answer.ensures)
    (answered_turns c.in-Ok.ran.done c.in-Ok.ran.stop (failed_turns g.D.Dial.shown c.args.dial.now) (failed_turns g.D.Dial.shown c.run.new.dial) counts)

pub returns-clause-begun : goal.returns-clause-begun
returns-clause-begun g c =
    let number = c.args.number in
    let shown = g.D.Dial.shown in
    let job = slice_index_or c.args.shared.now.jobs.now number c.index-shared-number.result in
    let at : slice_get c.args.shared.now.jobs.now number ≡ Some job = slice_get-get_or c.args.shared.now.jobs.now number c.index-shared-number.result c.requires.there in
    at_number (λ job. EndsItsDials (shown c.args.dial.now) (shown c.run.new.dial) job.want.transfer) c.args.shared.now.jobs.now number job at c.run.ensures.dials
