-- How often a call asks the budget: for one open connection more, and to keep one more.
use Rattle.std.specs.Prelude.{◌≡◌, ℕ, ◌+◌, Bool, false, not, nat_lt, ◌==◌, ◌&&◌, List, Option, Some, is_none}
use Rattle.std.specs.Option.{option_map_or}
use Rattle.persistence.specs.declared.facts.Facts.{Facts}
use Rattle.persistence.specs.Persistent.{is_persistent}
use Rattle.conn_log.specs.declared.entry.Want.{Want}
use Rattle.conn_log.specs.declared.entry.Entry.{Entry}
use Rattle.conn_log.specs.Connections.{holder_want}
use Rattle.conn_log.specs.Waiting.{waiting}
use Rattle.conn_log.specs.Fit.{newest_fit}
use Rattle.conn_log.specs.Legal.{LimitAndFirst}
use Rattle.host_state.specs.Steps.{moment_at, is_full}
use Rattle.host_state.specs.Calls.{Start, is_anyone, becomes_idle}
use Rattle.host_state.specs.Effects.{one_if, tidied}

-- an acquire, or another try of one, asks for an open connection: nobody waits, and once what is too old is closed
-- none fits, and the host has room
abbrev pub asks_to_open : LimitAndFirst → List Entry → Want → ℕ → Bool
asks_to_open settings log want moment = not (is_anyone (waiting log)) && (is_none {T = ℕ} (newest_fit (tidied want moment log) want moment) && not (is_full settings (tidied want moment log)))

abbrev pub open_asks : LimitAndFirst → List Entry → Want → ℕ → ℕ
open_asks settings log want now = one_if (asks_to_open settings log want (moment_at log now))

-- the transfer holds the connection, with a want that forbids reuse
abbrev pub forbids_for : ℕ → Option Want → Bool
forbids_for transfer held = option_map_or (λ (want : Want). (want.transfer == transfer) && want.forbid_reuse) held false

abbrev pub recorded_forbids : List Entry → ℕ → ℕ → Bool
recorded_forbids log transfer c = forbids_for transfer (holder_want log c)

-- the lease's own want forbids reuse, and so does the recorded one
abbrev pub forbids_reuse : List Entry → Start → Bool
forbids_reuse log start = start.want.forbid_reuse && recorded_forbids log start.want.transfer start.number

-- a connection that comes back so may stay open
abbrev pub may_stay : List Entry → Start → Facts → Bool
may_stay log start facts = is_persistent facts && not (forbids_reuse log start)

-- and where nobody waits it may be kept idle: a give back asks for that
abbrev pub may_be_kept : List Entry → Start → Facts → Bool
may_be_kept log start facts = not (is_anyone (waiting log)) && may_stay log start facts

abbrev pub keep_asks : List Entry → Start → Facts → ℕ
keep_asks log start facts = one_if (may_be_kept log start facts)

-- a changed limit that opens so many of those that are due asks for each of them, and once more where the budget has
-- no room for the next
abbrev pub limit_asks : ℕ → ℕ → ℕ
limit_asks given due = given + one_if (nat_lt given due)

-- where the lease's want is the recorded one, a give back asks exactly where the connection is to be idle
abbrev pub GiveBackAsksForWhatStays : Type 0
GiveBackAsksForWhatStays =
    (log : List Entry) (start : Start) (facts : Facts) (now : ℕ)
    → holder_want log start.number ≡ Some start.want
    → may_be_kept log start facts ≡ becomes_idle log start.number facts now
