-- What the plain readers ask of a part of a log: whether what waits in one entry still waits after
-- the entries that came later, and whether what one opens stays open. The model of a log needs none of
-- it.
use Rattle.std.specs.Prelude.{ℕ, Bool, true, false, not, ◌==◌, ◌||◌, List, [], ◌∷◌, filter}
use Rattle.conn_log.specs.declared.entry.Want.{Want}
use Rattle.conn_log.specs.declared.entry.Event.{Event}
use Rattle.conn_log.specs.declared.entry.Event.TheVariants.{Opened, Leased, Waited, Left}
use Rattle.conn_log.specs.declared.entry.Entry.{Entry}
use Rattle.conn_log.specs.Connections.{is_closed}

-- the event ends that transfer's wait: it starts, or leaves
abbrev pub ends_wait : Event → ℕ → Bool
ends_wait (Opened c want) transfer = transfer == want.transfer
ends_wait (Leased c want) transfer = transfer == want.transfer
ends_wait (Left other) transfer = transfer == other
ends_wait _ transfer = false

-- some entry of these ends it
abbrev pub is_wait_ended : List Entry → ℕ → Bool
is_wait_ended [] transfer = false
is_wait_ended (e ∷ others) transfer = ends_wait e.event transfer || is_wait_ended others transfer

-- the event begins a wait that none of these entries ends
abbrev pub is_left_waiting : Event → List Entry → Bool
is_left_waiting (Waited want) others = not (is_wait_ended others want.transfer)
is_left_waiting _ others = false

-- of these wants those that no entry of these ends
abbrev pub left_waiting : List Entry → List Want → List Want
left_waiting others wants = filter (λ (want : Want). not (is_wait_ended others want.transfer)) wants

-- the event opens a connection that the log does not close
abbrev pub is_left_open : Event → List Entry → Bool
is_left_open (Opened c want) log = not (is_closed log c)
is_left_open _ log = false

-- the event begins a wait; some event of these entries does
abbrev pub is_wait_begun : Event → Bool
is_wait_begun (Waited want) = true
is_wait_begun _ = false

abbrev pub is_any_wait_begun : List Entry → Bool
is_any_wait_begun [] = false
is_any_wait_begun (e ∷ others) = is_wait_begun e.event || is_any_wait_begun others
