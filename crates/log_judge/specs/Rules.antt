-- The rules that an entry of a host's log is judged by, in the order in which they are told. Each rule gives its
-- violation if it is broken. What a rule asks of a log, of times and of the queue stands in conn_log: CURLOPT_MAXAGE_CONN,
-- CURLOPT_MAXLIFETIME_CONN, CURLOPT_FRESH_CONNECT, CURLMOPT_MAX_HOST_CONNECTIONS, RFC 9112 section 9.
use Rattle.std.specs.Prelude.{ℕ, ◌+◌, ◌-◌, Bool, false, true, not, nat_lt, nat_le, ◌&&◌, ◌||◌, ◌==◌, if◌then◌else◌, List, [], ◌∷◌, length, slice_get, Option, Some, None, is_some}
use Rattle.std.specs.Option.{option_or, option_map}
use Rattle.std.specs.Bool.{beq}
use Rattle.conn_log.specs.declared.base.OpenConnection.{OpenConnection}
use Rattle.conn_log.specs.declared.entry.Want.{Want}
use Rattle.conn_log.specs.declared.entry.Cause.{Cause}
use Rattle.conn_log.specs.declared.entry.Cause.TheVariants.{NotPersistent, Cut, Forbidden, Dropped, Withdrawn}
use Rattle.conn_log.specs.declared.entry.Event.{Event}
use Rattle.conn_log.specs.declared.entry.Event.TheVariants.{Opened, Leased, Returned, Closed, Waited, Left, Limit}
use Rattle.conn_log.specs.declared.entry.Entry.{Entry}
use Rattle.conn_log.specs.Connections.{last_moment, opened, greatest, open_connections, is_open, held_number, idle_connections}
use Rattle.conn_log.specs.Waiting.{waiting, waits}
use Rattle.conn_log.specs.Legal.{LimitAndFirst, limit_in_force, owed}
use Rattle.conn_log.specs.Laws.{known_of}
use Rattle.log_judge.specs.declared.violation.Violation.{Violation}
use Rattle.log_judge.specs.declared.violation.Fault.{Fault}
use Rattle.log_judge.specs.declared.violation.Fault.TheVariants.{Broken, Memory}
use Rattle.log_judge.specs.declared.violation.Violation.TheVariants.{Earlier, CloseOwed, NotNext, Full, NotFirst, Holds, NotOpen, InUse, OtherLane, WantsNew, IdleTooLong, OpenTooLong, NotHeld, NotOwed, WaitsAlready, BesideIdle, NotWaiting, BelowOpen}

-- that violation, unless the rule is kept
abbrev pub unless : Bool → Violation → Option Violation
unless kept violation = if kept then None else Some violation

-- of some rules the first that is broken
abbrev pub first_of : List (Option Violation) → Option Violation
first_of [] = None
first_of (rule ∷ others) = option_or rule (first_of others)

-- what two wants have in common is all
abbrev pub is_same_want : Want → Want → Bool
is_same_want x y = (x.transfer == y.transfer) && (x.max_age == y.max_age) && (x.max_life == y.max_life) && (x.lane == y.lane) && beq x.fresh y.fresh && beq x.forbid_reuse y.forbid_reuse

-- what is known of a connection, if it is open
abbrev pub known_at : List Entry → ℕ → Option OpenConnection
known_at log c = if is_open log c then Some (known_of log c) else None

-- earlier: before the last entry
abbrev pub earlier : ℕ → ℕ → Option Violation
earlier last moment = unless (nat_le last moment) (Earlier last)

-- holds: the transfer holds a connection already
abbrev pub holds_one : Option ℕ → Option Violation
holds_one held = option_map (λ (c : ℕ). Holds c) held

-- starts: another waits before, and where nobody waits, the transfer holds a connection already
abbrev pub starts : Option Want → Option ℕ → Want → Option Violation
starts (Some head) held want = unless (is_same_want want head) (NotFirst head.transfer)
starts None held want = holds_one held

-- of an open connection: it is not idle; it is nobody's; it is of another lane; it was idle, or open, for too long
abbrev pub in_use : OpenConnection → Option Violation
in_use known = option_map (λ (want : Want). InUse want.transfer) known.holder

abbrev pub not_held : OpenConnection → Option Violation
not_held known = unless (is_some known.holder) NotHeld

abbrev pub other_lane : OpenConnection → Want → Option Violation
other_lane known want = unless (known.lane == want.lane) (OtherLane known.lane)

abbrev pub wants_new : Want → Option Violation
wants_new want = unless (not want.fresh) WantsNew

abbrev pub idle_too_long : OpenConnection → Want → ℕ → Option Violation
idle_too_long known want moment = unless (nat_le (moment - known.since) want.max_age) (IdleTooLong (moment - known.since))

abbrev pub open_too_long : OpenConnection → Want → ℕ → Option Violation
open_too_long known want moment = unless ((want.max_life == 0) || nat_le (moment - known.born) want.max_life) (OpenTooLong (moment - known.born))

-- the rules of each event, in their order; those of a start come last
abbrev pub of_opened : ℕ → ℕ → ℕ → ℕ → Option Violation → Option Violation
of_opened next count limit c start = first_of (unless (c == next) (NotNext next) ∷ unless (nat_lt count limit) (Full count limit) ∷ start ∷ [])

abbrev pub of_leased : Option OpenConnection → Want → ℕ → Option Violation → Option Violation
of_leased None want moment start = Some NotOpen
of_leased (Some known) want moment start = first_of (in_use known ∷ other_lane known want ∷ wants_new want ∷ idle_too_long known want moment ∷ open_too_long known want moment ∷ start ∷ [])

abbrev pub of_returned : Option OpenConnection → Option Violation
of_returned None = Some NotOpen
of_returned (Some known) = not_held known

-- what a cause asks where no close is owed
abbrev pub of_cause : Cause → OpenConnection → Option Violation
of_cause Dropped known = not_held known
of_cause Withdrawn known = not_held known
of_cause Cut known = Some NotOwed
of_cause Forbidden known = Some NotOwed
of_cause NotPersistent known = Some NotOwed
of_cause _ known = in_use known

abbrev pub of_closed : Option OpenConnection → Cause → Option Violation
of_closed None cause = Some NotOpen
of_closed (Some known) cause = of_cause cause known

abbrev pub of_waited : Option ℕ → Bool → ℕ → Option Violation
of_waited held is_waiting count = first_of (holds_one held ∷ unless (not is_waiting) WaitsAlready ∷ unless (count == 0) (BesideIdle count) ∷ [])

abbrev pub of_left : Bool → Option Violation
of_left is_waiting = unless is_waiting NotWaiting

abbrev pub of_limit : ℕ → ℕ → Option Violation
of_limit count limit = unless (nat_le count limit) (BelowOpen count)

-- a close for that cause, which is one of an ended use
abbrev pub is_same_ending : Cause → Cause → Bool
is_same_ending Cut Cut = true
is_same_ending Forbidden Forbidden = true
is_same_ending NotPersistent NotPersistent = true
is_same_ending _ _ = false

abbrev pub is_close_of : ℕ → Cause → Event → Bool
is_close_of c cause (Closed d why) = (d == c) && is_same_ending why cause
is_close_of c cause _ = false

-- where a close is owed, nothing else may come
abbrev pub of_owed : ℕ → Cause → Event → Option Violation
of_owed c cause event = unless (is_close_of c cause event) (CloseOwed c cause)

module _ (settings : LimitAndFirst) (log : List Entry) where
  abbrev pub of_start : Want → Option Violation
  of_start want = starts (slice_get (waiting log) 0) (held_number log want.transfer) want

  -- the first rule that an event breaks where no close is owed
  abbrev pub of_event : ℕ → Event → Option Violation
  of_event moment (Opened c want) = of_opened (greatest settings.first (opened log) + 1) (length (open_connections log)) (limit_in_force settings log) c (of_start want)
  of_event moment (Leased c want) = of_leased (known_at log c) want moment (of_start want)
  of_event moment (Returned c facts) = of_returned (known_at log c)
  of_event moment (Closed c cause) = of_closed (known_at log c) cause
  of_event moment (Waited want) = of_waited (held_number log want.transfer) (waits log want.transfer) (length (idle_connections log))
  of_event moment (Left transfer) = of_left (waits log transfer)
  of_event moment (Limit n) = of_limit (length (open_connections log)) n

  abbrev pub of_debt : Option (ℕ × Cause) → ℕ → Event → Option Violation
  of_debt None moment event = of_event moment event
  of_debt (Some due) moment event = of_owed due.0 due.1 event

  -- first broken: the first rule that an entry breaks
  abbrev pub first_broken : Entry → Option Violation
  first_broken e = option_or (earlier (last_moment log) e.moment) (of_debt (owed log) e.moment e.event)

-- the rule that a fault tells of
abbrev pub violation_of : Fault → Option Violation
violation_of (Broken violation) = Some violation
violation_of Memory = None
