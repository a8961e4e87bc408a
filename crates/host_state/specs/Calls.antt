-- What a call of a bundle answers: the log after it and the reply, from the log before it, the call, its
-- moment, and what the budget answered where it was asked. Steps take the log last, so that they read in
-- their order.
use Rattle.std.specs.Prelude.{◌≡◌, ℕ, zero, suc, ◌-◌, min, Bool, true, false, not, nat_lt, ◌==◌, ◌&&◌, ◌||◌, if◌then◌else◌, List, [], ◌∷◌, ◌++◌, length, Option, Some, None, is_none}
use Rattle.persistence.specs.declared.facts.Facts.{Facts}
use Rattle.budget.specs.declared.permits.Try.{Try}
use Rattle.budget.specs.declared.permits.Try.TheVariants.{Got, Full, Contended}
use Rattle.budget.specs.declared.refusal.Refusal.{Refusal}
use Rattle.budget.specs.declared.refusal.Refusal.TheVariants.{TransferBusy, Exhausted, BadLimit, Busy}
use Rattle.conn_log.specs.declared.entry.Want.{Want}
use Rattle.conn_log.specs.declared.entry.Cause.{Cause}
use Rattle.conn_log.specs.declared.entry.Cause.TheVariants.{TooOld as ForAge, HostRoom, TotalRoom, CacheFull, Dropped, Withdrawn}
use Rattle.conn_log.specs.declared.entry.Event.{Event}
use Rattle.conn_log.specs.declared.entry.Event.TheVariants.{Opened, Leased, Returned, Closed, Waited, Left, Limit}
use Rattle.conn_log.specs.declared.entry.Entry.{Entry}
use Rattle.conn_log.specs.Connections.{is_among, holds, is_held_by, held_number, open_connections, idle_connections}
use Rattle.conn_log.specs.Waiting.{waiting, waits}
use Rattle.conn_log.specs.Fit.{is_fit, newest_fit, oldest, is_too_old_in_lane}
use Rattle.conn_log.specs.Legal.{LimitAndFirst, owed}
use Rattle.host_state.specs.Steps.{moment_at, add, next_number, is_full, is_exhausted, without_picked}
use Rattle.host_state.specs.declared.closing.Closing.TheVariants.{TooOld, Above}

-- what a lease tells of its start, and a ticket of its wait
pub record Start : Type 0 where
  pub number : ℕ
  pub want : Want
  pub moment : ℕ
  pub reused : Bool

pub record Wait : Type 0 where
  pub want : Want
  pub moment : ℕ

-- what an acquire comes to: a lease, a ticket, or a booking where the budget has no room, or has to be asked
-- again
pub data Reply : Type 0 where
  starts : Start → Reply
  waits_on : Wait → Reply
  no_room : Reply
  again : Reply

pub record Acquired : Type 0 where
  pub log : List Entry
  pub reply : Reply

-- an idle connection is leased to the transfer
abbrev pub reuse : Want → ℕ → ℕ → List Entry → Acquired
reuse want c moment log = record { log = add moment (Leased c want) log; reply = starts (record { number = c; want = want; moment = moment; reused = true }) }

-- a new one is opened for it
abbrev pub start_new : LimitAndFirst → Want → ℕ → List Entry → List Entry
start_new settings want moment log = add moment (Opened (next_number settings log) want) log

abbrev pub start_opened : LimitAndFirst → Want → ℕ → List Entry → Acquired
start_opened settings want moment log = record { log = start_new settings want moment log; reply = starts (record { number = next_number settings log; want = want; moment = moment; reused = false }) }

-- it waits after all others
abbrev pub wait_last : Want → ℕ → List Entry → Acquired
wait_last want moment log = record { log = add moment (Waited want) log; reply = waits_on (record { want = want; moment = moment }) }

-- the oldest idle connection makes room for a new one; where none is idle the transfer waits
abbrev pub start_in_place_of : Option ℕ → Cause → LimitAndFirst → Want → ℕ → List Entry → Acquired
start_in_place_of None cause settings want moment log = wait_last want moment log
start_in_place_of (Some c) cause settings want moment log = start_opened settings want moment (add moment (Closed c cause) log)

abbrev pub start_in_place : Cause → LimitAndFirst → Want → ℕ → List Entry → Acquired
start_in_place cause settings want moment log = start_in_place_of (oldest log) cause settings want moment log

-- the host has room, and the budget was asked for one connection more: where it has none the acquire is
-- halfway, or at the last try the host's own oldest idle connection makes room, or the transfer waits
abbrev pub start_as_told : Bool → Try → LimitAndFirst → Want → ℕ → List Entry → Acquired
start_as_told is_last Got settings want moment log = start_opened settings want moment log
start_as_told is_last Contended settings want moment log = record { log = log; reply = again }
start_as_told false Full settings want moment log = record { log = log; reply = no_room }
start_as_told true Full settings want moment log = start_in_place TotalRoom settings want moment log

-- a transfer starts on the newest connection that fits; at the host's limit in place of the oldest idle one;
-- else as the budget answers
abbrev pub start_on : Option ℕ → Bool → Try → LimitAndFirst → Want → ℕ → List Entry → Acquired
start_on (Some c) is_last told settings want moment log = reuse want c moment log
start_on None is_last told settings want moment log = if is_full settings log then start_in_place HostRoom settings want moment log else start_as_told is_last told settings want moment log

abbrev pub start : Bool → Try → LimitAndFirst → Want → ℕ → List Entry → Acquired
start is_last told settings want moment log = start_on (newest_fit log want moment) is_last told settings want moment log

-- where others wait the transfer waits after them; else what is too old for it is closed, and it starts
abbrev pub start_behind : List Want → Bool → Try → LimitAndFirst → Want → ℕ → List Entry → Acquired
start_behind [] is_last told settings want moment log = start is_last told settings want moment (without_picked (TooOld want) moment log)
start_behind (head ∷ others) is_last told settings want moment log = wait_last want moment log

-- what an acquire comes to that is not refused, or another try of one that is halfway
abbrev pub acquired : Bool → Try → LimitAndFirst → List Entry → Want → ℕ → Acquired
acquired is_last told settings log want now = start_behind (waiting log) is_last told settings want (moment_at log now) log

-- one is opened for the first transfer that waits, if one does
abbrev pub open_for : LimitAndFirst → ℕ → List Entry → List Want → List Entry
open_for settings moment log [] = log
open_for settings moment log (head ∷ others) = start_new settings head moment log

abbrev pub open_for_head : LimitAndFirst → ℕ → List Entry → List Entry
open_for_head settings moment log = open_for settings moment log (waiting log)

-- why a connection that came back is closed where it does not fit the first transfer that waits
abbrev pub unfit_cause : LimitAndFirst → List Entry → Want → ℕ → ℕ → Cause
unfit_cause settings log head moment c = if is_too_old_in_lane log head moment c then ForAge else (if is_full settings log then HostRoom else TotalRoom)

-- a connection that came back goes to the first transfer that waits, where it fits; where it does not,
-- it is closed and one is opened for that transfer; where nobody waits it is idle
abbrev pub grant_to : LimitAndFirst → ℕ → ℕ → List Entry → List Want → List Entry
grant_to settings c moment log [] = log
grant_to settings c moment log (head ∷ others) =
    if is_fit log head moment c then add moment (Leased c head) log else start_new settings head moment (add moment (Closed c (unfit_cause settings log head moment c)) log)

-- a use that ends has its close at once, and one is opened for the first transfer that waits
abbrev pub settle : LimitAndFirst → ℕ → ℕ → List Entry → Option (ℕ × Cause) → List Entry
settle settings c moment log None = grant_to settings c moment log (waiting log)
settle settings c moment log (Some close) = open_for_head settings moment (add moment (Closed close.0 close.1) log)

abbrev pub after_return : LimitAndFirst → ℕ → ℕ → List Entry → List Entry
after_return settings c moment log = settle settings c moment log (owed log)

-- the log once a connection came back with the facts of its response, before anything else
abbrev pub returned : List Entry → ℕ → Facts → ℕ → List Entry
returned log c facts now = add (moment_at log now) (Returned c facts) log

-- the log after a connection is given back, where the budget keeps it if it is to be idle
abbrev pub after_give_back : LimitAndFirst → List Entry → ℕ → Facts → ℕ → List Entry
after_give_back settings log c facts now = after_return settings c (moment_at log now) (returned log c facts now)

abbrev pub is_anyone : List Want → Bool
is_anyone [] = false
is_anyone (head ∷ others) = true

-- it is to be idle: its use does not end, and nobody waits
abbrev pub becomes_idle : List Entry → ℕ → Facts → ℕ → Bool
becomes_idle log c facts now = is_none (owed (returned log c facts now)) && not (is_anyone (waiting log))

-- what a give back comes to: the lease is spent, or, where the budget was asked to keep one connection more,
-- it keeps none, or has to be asked again
pub data Returning : Type 0 where
  spent : List Entry → Returning
  not_kept : Returning
  keep_again : Returning

-- the connection is idle where the budget keeps it; in a full cache it is closed, if that is asked for
abbrev pub keep_as_told : Bool → Try → ℕ → ℕ → List Entry → Returning
keep_as_told close_if_full Got c moment log = spent log
keep_as_told close_if_full Contended c moment log = keep_again
keep_as_told true Full c moment log = spent (add moment (Closed c CacheFull) log)
keep_as_told false Full c moment log = not_kept

-- a connection is given back: where it is to be idle, as the budget answers
abbrev pub given_back : Bool → Try → LimitAndFirst → List Entry → ℕ → Facts → ℕ → Returning
given_back close_if_full told settings log c facts now =
    if becomes_idle log c facts now then keep_as_told close_if_full told c (moment_at log now) (returned log c facts now) else spent (after_give_back settings log c facts now)

-- the log after a connection is closed by its holder, and one is opened for the first that waits
abbrev pub after_close : LimitAndFirst → List Entry → ℕ → Cause → ℕ → List Entry
after_close settings log c cause now = let moment = moment_at log now in open_for_head settings moment (add moment (Closed c cause) log)

-- the log after a lease is abandoned
abbrev pub after_abandon : LimitAndFirst → List Entry → ℕ → ℕ → List Entry
after_abandon settings log c now = after_close settings log c Dropped now

-- the log after a ticket is withdrawn: its transfer leaves where it waits; what it was granted is closed
abbrev pub close_granted : LimitAndFirst → List Entry → Option ℕ → ℕ → List Entry
close_granted settings log None now = log
close_granted settings log (Some c) now = after_close settings log c Withdrawn now

abbrev pub after_withdraw : LimitAndFirst → List Entry → ℕ → ℕ → List Entry
after_withdraw settings log transfer now = if waits log transfer then add (moment_at log now) (Left transfer) log else close_granted settings log (held_number log transfer) now

-- the log after a turn of a host that is queued: where the budget has room one is opened for the first that
-- waits
abbrev pub after_turn : Try → LimitAndFirst → List Entry → ℕ → List Entry
after_turn Got settings log now = open_for_head settings (moment_at log now) log
after_turn Full settings log now = log
after_turn Contended settings log now = log

-- one is opened for each of the first that wait, so many of them
abbrev pub open_for_first : ℕ → LimitAndFirst → ℕ → List Entry → List Entry
open_for_first zero settings moment log = log
open_for_first (suc n) settings moment log = open_for_first n settings moment (open_for_head settings moment log)

-- the log after the host's limit becomes that number: what is idle above it is closed, the change is logged,
-- and one is opened for each of so many that wait
abbrev pub after_limit : ℕ → ℕ → LimitAndFirst → List Entry → ℕ → List Entry
after_limit most given settings log now = let moment = moment_at log now in open_for_first given settings moment (add moment (Limit most) (without_picked (Above most) moment log))

-- the greatest limit, as which 0 is kept
abbrev pub greatest_limit : ℕ
greatest_limit = 65535

abbrev pub kept_limit : ℕ → ℕ
kept_limit n = if n == 0 then greatest_limit else n

-- how many connections a transfer holds
abbrev pub leased_len : List Entry → ℕ
leased_len log = length (open_connections log) - length (idle_connections log)

-- why a new limit is refused, if the log or the number is why
abbrev pub limit_refusal : ℕ → List Entry → Option Refusal
limit_refusal n log =
    if nat_lt greatest_limit n then Some BadLimit else (
    if nat_lt (kept_limit n) (leased_len log) then Some (Busy (leased_len log)) else None)

-- how many of those that wait a new limit lets start where the budget has room for all; none where the host
-- is queued, and has its turn to come
abbrev pub starts_due : Bool → ℕ → List Entry → ℕ
starts_due queued most log = if queued then 0 else min (length (waiting log)) (most - length (open_connections log))

-- queued for room among all hosts: a transfer waits, and the host has room
abbrev pub is_queued : LimitAndFirst → List Entry → Bool
is_queued settings log = is_anyone (waiting log) && not (is_full settings log)

-- busy: the transfer holds a connection, or waits, or its acquire is halfway
abbrev pub is_busy : List Entry → List ℕ → ℕ → Bool
is_busy log booked transfer = holds log transfer || (waits log transfer || is_among transfer booked)

-- why an acquire is refused, if log and bookings are why: the first of these that holds
abbrev pub refusal : LimitAndFirst → List Entry → List ℕ → Want → Option Refusal
refusal settings log booked want =
    if is_busy log booked want.transfer then Some TransferBusy else (
    if is_exhausted settings log (length booked) then Some Exhausted else None)

-- a stranger: a lease of a connection that the log does not show held by that transfer
abbrev pub is_stranger : List Entry → ℕ → ℕ → Bool
is_stranger log transfer c = not (is_held_by log transfer c)

-- what the entry of a start tells of it
abbrev pub start_by : ℕ → Event → Option Start
start_by moment (Opened c want) = Some (record { number = c; want = want; moment = moment; reused = false })
start_by moment (Leased c want) = Some (record { number = c; want = want; moment = moment; reused = true })
start_by moment _ = None

-- the last start of a transfer
abbrev pub start_of : ℕ → Option Start → Option Start → Option Start
start_of transfer None sooner = sooner
start_of transfer (Some start) sooner = if start.want.transfer == transfer then Some start else sooner

abbrev pub last_start : List Entry → ℕ → Option Start
last_start [] transfer = None
last_start (e ∷ before) transfer = start_of transfer (start_by e.moment e.event) (last_start before transfer)

-- the causes for which a host closes its oldest idle connection for others
abbrev pub makes_room_for_others : Cause → Bool
makes_room_for_others TotalRoom = true
makes_room_for_others CacheFull = true
makes_room_for_others _ = false

-- a permit was freed: fewer are open
abbrev pub is_freed : List Entry → List Entry → Bool
is_freed old new = nat_lt (length (open_connections new)) (length (open_connections old))

-- the log only grew
abbrev pub GrowsBy : List Entry → List Entry → Type 0
GrowsBy old new = (added : List Entry) × (new ≡ added ++ old)

-- the entry of a start
abbrev pub start_event : Start → Event
start_event start = if start.reused then Leased start.number start.want else Opened start.number start.want

abbrev pub start_entry : Start → Entry
start_entry start = record { moment = start.moment; event = start_event start }

-- the entry of a wait
abbrev pub wait_entry : Wait → Entry
wait_entry wait = record { moment = wait.moment; event = Waited wait.want }
