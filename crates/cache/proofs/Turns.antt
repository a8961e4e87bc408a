-- Turns lead lawful hosts to rest: each opens one connection for a transfer that waits, until no turn is possible.
use Rattle.std.proofs.Common.{◌≡◌, ℕ, zero, suc, ◌+◌, ◌<◌, ◌≤◌, Bool, true, false, ◌&&◌, ◌||◌, List, [], ◌∷◌, length, refl, sym, ap, ◌∙◌, arith}
use Rattle.std.specs.Prelude.{if◌then◌else◌, nat_lt}
use Rattle.std.proofs.lemmas.Bool.Decides.{nat_tests}
use Rattle.budget.specs.Limits.{Bounds}
use Rattle.budget.specs.Lobby.{is_listed}
use Rattle.budget.specs.declared.permits.Try.TheVariants.{Got}
use Rattle.conn_log.specs.declared.entry.Want.{Want}
use Rattle.conn_log.specs.declared.entry.Cause.TheVariants.{TotalRoom}
use Rattle.conn_log.specs.declared.entry.Entry.{Entry}
use Rattle.conn_log.specs.Waiting.{waiting}
use Rattle.conn_log.proofs.Soundness.{and_left, and_right}
use Rattle.host_state.specs.Calls.{is_anyone, after_turn, is_queued}
use Rattle.host_state.specs.Effects.{OpensForHead}
use Rattle.host_state.specs.Orders.{order_after_turn}
use Rattle.host_state.proofs.Counts.{turn_opens}
use Rattle.cache.specs.AllHosts.{AllHosts, log_at, terms, total, kept, has_room, waiting_len, total_waiting, after_turn_of, without_oldest, with_room, turn_of_first, is_any, may_turn, after_turns, served, IsLawful, IsServed, IsAtRest}
use Rattle.cache.proofs.Lawfulness.{part_of, sum_moved, marks_turn, queue_is, lawful_changed}
use Rattle.cache.proofs.Evictions.{LosesOldest, oldest_lost}

-- room below a limit, and none
pub room_is : (n most : ℕ) → nat_lt n most ≡ true → n < most
room_is n most is = grind (arith, nat_tests, is)

pub full_is : (n most : ℕ) → nat_lt n most ≡ false → n ≤ most → n ≡ most
full_is n most is within = grind (arith, nat_tests, is, within)

none_is : (n : ℕ) → nat_lt 0 n ≡ false → n ≡ 0
none_is n is = grind (arith, nat_tests, is)

-- the first host that is queued is there, and someone waits at it
listed_head : (host : ℕ) (others : List ℕ) → is_listed (host ∷ others) host ≡ true
listed_head host others = grind (arith, nat_tests)

pub someone_waits : (log : List Entry) → is_anyone (waiting log) ≡ true → 0 < waiting_len log
someone_waits log = of_wants (waiting log)
  where
    of_wants : (wants : List Want) → is_anyone wants ≡ true → 0 < length wants
    of_wants [] anyone = absurd (cc)
    of_wants (head ∷ others) anyone = omega arith

module _ (limits : Bounds) (all : AllHosts) (lawful : IsLawful limits all) (host : ℕ) (others : List ℕ) (first : all.queue ≡ host ∷ others) where
  listed_first : is_listed all.queue host ≡ true
  listed_first = ap (λ (order : List ℕ). is_listed order host) first ∙ listed_head host others

  pub first_there : host < length all.logs
  first_there = lawful.there host listed_first

  pub first_queued : is_queued (terms limits) (log_at all host) ≡ true
  first_queued = sym (lawful.queued host first_there) ∙ listed_first

-- where a host is queued a transfer waits
pub waits_where_queued : (limits : Bounds) (all : AllHosts) → IsLawful limits all → is_any all.queue ≡ true → 0 < total_waiting all
waits_where_queued limits all lawful = by_queue all.queue refl
  where
    by_queue : (queue : List ℕ) → all.queue ≡ queue → is_any queue ≡ true → 0 < total_waiting all
    by_queue [] is any = absurd (cc)
    by_queue (host ∷ others) is any =
        let there = first_there limits all lawful host others is in
        let log = log_at all host in
        let anyone = and_left (is_anyone (waiting log)) _ (first_queued limits all lawful host others is) in
        omega (arith, someone_waits log anyone, part_of waiting_len all.logs host there)

-- a turn leaves lawful hosts, and one fewer waits
pub record HadTurn (limits : Bounds) (all after : AllHosts) : Type 0 where
  pub lawful : IsLawful limits after
  pub one_fewer_waits : total_waiting after + 1 ≡ total_waiting all

pub turned : (limits : Bounds) (now : ℕ) (all : AllHosts) → IsLawful limits all → total all < limits.total → (host : ℕ) (others : List ℕ) → all.queue ≡ host ∷ others → HadTurn limits all (after_turn_of host limits now all)
turned limits now all lawful room host others first =
    let there = first_there limits all lawful host others first in
    let log = log_at all host in
    let new = after_turn Got (terms limits) log now in
    let opens : OpensForHead (terms limits) log new = turn_opens (terms limits) log now (lawful.settled host there) (first_queued limits all lawful host others first) in
    let queued = is_queued (terms limits) new in
    record {
      lawful = lawful_changed limits all lawful host there new (order_after_turn host queued all.queue) opens.settled
          (marks_turn (length all.logs) host queued all.queue (queue_is limits all lawful) (listed_first limits all lawful host others first))
          (omega (arith, opens.one_more_open, room)) (omega (arith, opens.as_many_idle, lawful.kept_within));
      one_fewer_waits = omega (arith, ap length opens.head_starts, sum_moved waiting_len all.logs host new there);
    }

-- room was made for it where there was none
pub record HasRoomMade (limits : Bounds) (all after : AllHosts) : Type 0 where
  pub lawful : IsLawful limits after
  pub room : total after < limits.total
  pub as_many_wait : total_waiting after ≡ total_waiting all
  pub queue : after.queue ≡ all.queue

pub room_made : (limits : Bounds) (now : ℕ) (all : AllHosts) → IsLawful limits all → (has_room limits all || nat_lt 0 (kept all)) ≡ true → HasRoomMade limits all (with_room limits now all)
room_made limits now all lawful may = by_room (has_room limits all) refl may
  where
    by_room : (room : Bool) → has_room limits all ≡ room → (room || nat_lt 0 (kept all)) ≡ true → HasRoomMade limits all (if room then all else without_oldest TotalRoom now all)
    by_room true is may = record { lawful = lawful; room = room_is (total all) limits.total is; as_many_wait = refl; queue = refl }
    by_room false is may =
        let lost : LosesOldest TotalRoom now limits all (without_oldest TotalRoom now all) = oldest_lost TotalRoom refl limits now all lawful (room_is 0 (kept all) may) in
        record {
          lawful = lost.lawful;
          room = omega (arith, lost.one_fewer_open, lawful.total_within);
          as_many_wait = lost.as_many_wait;
          queue = lost.queue;
        }

pub first_turned : (limits : Bounds) (now : ℕ) (all : AllHosts) → IsLawful limits all → may_turn limits all ≡ true → HadTurn limits all (turn_of_first all.queue limits now all)
first_turned limits now all lawful may = by_queue all.queue refl (and_left (is_any all.queue) _ may) (and_right (is_any all.queue) _ may)
  where
    by_queue : (queue : List ℕ) → all.queue ≡ queue → is_any queue ≡ true → (has_room limits all || nat_lt 0 (kept all)) ≡ true → HadTurn limits all (turn_of_first queue limits now all)
    by_queue [] is any may = absurd (cc)
    by_queue (host ∷ others) is any may =
        let roomy = room_made limits now all lawful may in
        let had = turned limits now (with_room limits now all) roomy.lawful roomy.room host others (roomy.queue ∙ is) in
        record { lawful = had.lawful; one_fewer_waits = had.one_fewer_waits ∙ roomy.as_many_wait }

-- where no turn is possible all are served
no_turn : (any room idle : Bool) → (any && (room || idle)) ≡ false → any ≡ true → (room ≡ false) × (idle ≡ false)
no_turn any room idle never is = (grind (arith, nat_tests, never, is), grind (arith, nat_tests, never, is))

pub served_where_no_turn : (limits : Bounds) (all : AllHosts) → IsLawful limits all → may_turn limits all ≡ false → IsServed limits all
served_where_no_turn limits all lawful never = record {
  at_limit = λ any. full_is (total all) limits.total (no_turn (is_any all.queue) (has_room limits all) (nat_lt 0 (kept all)) never any).0 lawful.total_within;
  none_idle = λ any. none_is (kept all) (no_turn (is_any all.queue) (has_room limits all) (nat_lt 0 (kept all)) never any).1;
}

-- or nobody waits
pub served_where_nobody_waits : (limits : Bounds) (all : AllHosts) → IsLawful limits all → total_waiting all ≡ 0 → IsServed limits all
served_where_nobody_waits limits all lawful nobody = record {
  at_limit = λ any. absurd (omega (arith, nobody, waits_where_queued limits all lawful any));
  none_idle = λ any. absurd (omega (arith, nobody, waits_where_queued limits all lawful any));
}

pub turns_end_at_rest : (n : ℕ) (limits : Bounds) (now : ℕ) (all : AllHosts) → IsLawful limits all → total_waiting all ≤ n → IsAtRest limits (after_turns n limits now all)
turns_end_at_rest zero limits now all lawful fuel = record { lawful = lawful; served = served_where_nobody_waits limits all lawful (omega (arith, fuel)) }
turns_end_at_rest (suc n) limits now all lawful fuel = by_turn (may_turn limits all) refl (λ later. turns_end_at_rest n limits now later)
  where
    by_turn : (may : Bool) → may_turn limits all ≡ may → ((later : AllHosts) → IsLawful limits later → total_waiting later ≤ n → IsAtRest limits (after_turns n limits now later))
        → IsAtRest limits (if may then after_turns n limits now (turn_of_first all.queue limits now all) else all)
    by_turn false never rest = record { lawful = lawful; served = served_where_no_turn limits all lawful never }
    by_turn true may rest =
        let had = first_turned limits now all lawful may in
        rest (turn_of_first all.queue limits now all) had.lawful (omega (arith, had.one_fewer_waits, fuel))

pub serving_ends_at_rest : (limits : Bounds) (all : AllHosts) (now : ℕ) → IsLawful limits all → IsAtRest limits (served limits now all)
serving_ends_at_rest limits all now lawful = turns_end_at_rest (total_waiting all) limits now all lawful (omega arith)
