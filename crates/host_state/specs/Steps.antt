-- What the steps of a host add to its log. Steps take the log last, so that they read in their order.
use Rattle.std.specs.Prelude.{ℕ, ◌+◌, ◌-◌, max, Bool, ◌==◌, nat_le, List, [], ◌∷◌, length, filter, take}
use Rattle.conn_log.specs.declared.entry.Cause.{Cause}
use Rattle.conn_log.specs.declared.entry.Cause.TheVariants.{HostRoom, TooOld as ForAge, Pruned as ForPrune}
use Rattle.conn_log.specs.declared.entry.Event.{Event}
use Rattle.conn_log.specs.declared.entry.Event.TheVariants.{Closed}
use Rattle.conn_log.specs.declared.entry.Entry.{Entry}
use Rattle.conn_log.specs.Connections.{last_moment, opened, greatest, open_connections, born, since}
use Rattle.conn_log.specs.Waiting.{waiting}
use Rattle.conn_log.specs.Fit.{is_older, is_too_old_in_lane, idle_in_order}
use Rattle.conn_log.specs.Legal.{LimitAndFirst, limit_in_force}
use Rattle.host_state.specs.declared.closing.Closing.{Closing}
use Rattle.host_state.specs.declared.closing.Closing.TheVariants.{TooOld, Pruned, Above}

-- an event's moment: the greater of the moment handed in and that of the newest entry
abbrev pub moment_at : List Entry → ℕ → ℕ
moment_at log now = max now (last_moment log)

-- the log with one more event
abbrev pub add : ℕ → Event → List Entry → List Entry
add moment event log = record { moment = moment; event = event } ∷ log

-- the number of the next connection
abbrev pub next_number : LimitAndFirst → List Entry → ℕ
next_number settings log = greatest settings.first (opened log) + 1

-- the host has as many open connections as it may
abbrev pub is_full : LimitAndFirst → List Entry → Bool
is_full settings log = length (open_connections log) == limit_in_force settings log

-- each of these connections is closed, in their order
abbrev pub close_each : Cause → ℕ → List ℕ → List Entry → List Entry
close_each cause moment [] log = log
close_each cause moment (c ∷ numbers) log = close_each cause moment numbers (add moment (Closed c cause) log)

-- why a closing closes
abbrev pub cause_of : Closing → Cause
cause_of (TooOld want) = ForAge
cause_of (Pruned max_age max_life) = ForPrune
cause_of (Above limit) = HostRoom

-- what a closing picks, the one idle for the longest first: all that are too old in the want's lane; all
-- that are too old by two numbers; or as many as are open above a limit
abbrev pub picked : Closing → ℕ → List Entry → List ℕ
picked (TooOld want) moment log = filter (is_too_old_in_lane log want moment) (idle_in_order log)
picked (Pruned max_age max_life) moment log = filter (λ c. is_older (since log c) (born log c) max_age max_life moment) (idle_in_order log)
picked (Above limit) moment log = take (length (open_connections log) - limit) (idle_in_order log)

-- the log once each that it picks is closed
abbrev pub without_picked : Closing → ℕ → List Entry → List Entry
without_picked closing moment log = close_each (cause_of closing) moment (picked closing moment log) log

-- the greatest number that a connection can have
abbrev pub last_number : ℕ
last_number = 4294967295

-- exhausted: the numbers left are those that the waiting transfers and the acquires halfway may need
abbrev pub is_exhausted : LimitAndFirst → List Entry → ℕ → Bool
is_exhausted settings log booked = nat_le last_number (greatest settings.first (opened log) + (length (waiting log) + booked))
