-- A lease on the newest idle connection, where nothing else is to be done before it.
use Rattle.std.proofs.Common.{◌≡◌, ℕ, false, List, [], Some, None, ap, ◌∙◌}
use Rattle.budget.specs.declared.permits.Try.TheVariants.{Got as Given}
use Rattle.conn_log.specs.declared.entry.Want.{Want}
use Rattle.conn_log.specs.declared.entry.Entry.{Entry}
use Rattle.conn_log.specs.Waiting.{waiting}
use Rattle.conn_log.specs.Fit.{newest_fit, oldest_too_old}
use Rattle.conn_log.specs.Legal.{LimitAndFirst}
use Rattle.host_state.proofs.TooOld.{none_closed}
use Rattle.host_state.specs.Calls.{reuse, start_on, start, start_behind}

pub reused_at_once : (settings : LimitAndFirst) (log : List Entry) (want : Want) (m c : ℕ) → waiting log ≡ [] → oldest_too_old log want m ≡ None → newest_fit log want m ≡ Some c → start_behind (waiting log) false Given settings want m log ≡ reuse want c m log
reused_at_once settings log want m c nobody none newest =
    ap (λ wants. start_behind wants false Given settings want m log) nobody
    ∙ ap (start false Given settings want m) (none_closed want m log none)
    ∙ ap (λ fit. start_on fit false Given settings want m log) newest
