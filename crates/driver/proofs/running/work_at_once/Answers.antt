use Rattle.std.proofs.Common.{rules, ◌≡◌, List, ◌++◌, length, take, drop, slice_index_or, subst, sym}
use Rattle.std.specs.List.{sum_by}
use Rattle.std.proofs.lemmas.List.{take_at}
use Rattle.driver.specs.Quits.{QuitsSo}
use Rattle.driver.specs.Workers.{WorkerShown}
use Rattle.driver.specs.Turns.{failed_of, TurnedTogether}
use Rattle.driver.proofs.Turned.{together}
use Rattle.driver.proofs.running.work_at_once.Goals as goal

pub returns-clause-turns : goal.returns-clause-turns
returns-clause-turns g c =
    let new = c.for_each_mut.new.s in
    let old = c.deref_mut.result.now in
    let items = c.args.workers.now.items in
    let is : old ≡ items = search rules in
    let long : length new ≡ c.args.workers.now.len = search rules in
    let same : length new ≡ length old = search rules in
    let turned : TurnedTogether (sum_by failed_of old) new = together old new same (λ place other there.
    let at = (c.for_each_mut.ensures place other there).1 in
    subst (λ (w : WorkerShown). QuitsSo (slice_index_or new place other).quit w.failed (slice_index_or new place other).failed) at.argument_is
    (subst (λ (w : WorkerShown). QuitsSo w.quit at.argument.now.failed w.failed) at.left at.call.1)) in
    let left = take c.args.workers.now.len (new ++ drop (length new) items) in
    let put : TurnedTogether (sum_by failed_of old) left = subst (TurnedTogether (sum_by failed_of old)) (sym (take_at new (drop (length new) items) c.args.workers.now.len long)) turned in
    subst (λ (before : List WorkerShown). TurnedTogether (sum_by failed_of before) left) is put
