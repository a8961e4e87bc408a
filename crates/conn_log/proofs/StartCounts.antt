-- How many starts a log can have.
use Rattle.std.proofs.Common.{ℕ, ◌+◌, ◌≤◌, List, [], ◌∷◌, length, arith}
use Rattle.conn_log.specs.declared.entry.Event.{Event}
use Rattle.conn_log.specs.declared.entry.Event.TheVariants.{Opened, Leased, Returned, Closed, Waited, Left, Limit}
use Rattle.conn_log.specs.declared.entry.Entry.{Entry}
use Rattle.conn_log.specs.Starts.{starts_after, start_count}

-- an entry is one start at most
one_at_most : (event : Event) (starts : ℕ) → starts_after event starts ≤ starts + 1
one_at_most (Opened c want) starts = omega arith
one_at_most (Leased c want) starts = omega arith
one_at_most (Returned c facts) starts = omega arith
one_at_most (Closed c cause) starts = omega arith
one_at_most (Waited want) starts = omega arith
one_at_most (Left transfer) starts = omega arith
one_at_most (Limit most) starts = omega arith

pub starts_within : (log : List Entry) → start_count log ≤ length log
starts_within [] = omega arith
starts_within (e ∷ before) = omega (arith, one_at_most e.event (start_count before), starts_within before)
