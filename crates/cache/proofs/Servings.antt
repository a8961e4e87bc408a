-- Where nothing is called, hosts are only served: some of the first that wait there start, and nothing else changes
-- for those who hold or wait.
use Rattle.std.proofs.Common.{◌≡◌, ℕ, zero, suc, ◌+◌, ◌<◌, Bool, true, false, ◌==◌, ◌||◌, List, [], ◌∷◌, length, drop, slice_index_or, slice_set, Option, Some, None, is_some, refl, sym, ap, subst, ◌∙◌, inl, inr, arith}
use mathlib.Core.Bool.{false≢true}
use Rattle.std.specs.Prelude.{if◌then◌else◌}
use Rattle.std.specs.List.{list_any}
use Rattle.std.proofs.lemmas.Bool.Decides.{nat_tests, eqb_tells}
use Rattle.std.proofs.lemmas.List.{length-set}
use Rattle.budget.specs.Limits.{Bounds}
use Rattle.budget.specs.declared.permits.Try.TheVariants.{Got}
use Rattle.conn_log.specs.declared.entry.Want.{Want}
use Rattle.conn_log.specs.declared.entry.Cause.{Cause}
use Rattle.conn_log.specs.declared.entry.Cause.TheVariants.{TotalRoom}
use Rattle.conn_log.specs.declared.entry.Entry.{Entry}
use Rattle.conn_log.specs.Connections.{held_number}
use Rattle.conn_log.specs.Waiting.{waiting, waits}
use Rattle.conn_log.specs.Legal.{LimitAndFirst}
use Rattle.conn_log.specs.Sound.{IsSound}
use Rattle.conn_log.proofs.Soundness.{and_right}
use Rattle.host_state.specs.Steps.{moment_at}
use Rattle.host_state.specs.Calls.{after_turn, is_queued, start_new, open_for}
use Rattle.host_state.specs.Effects.{OpensForHead}
use Rattle.host_state.specs.Laws.{IsSoundAndQuiet}
use Rattle.host_state.proofs.Counts.{turn_opens}
use Rattle.cache.specs.AllHosts.{AllHosts, log_at, terms, has_room, total_waiting, without_oldest, after_turn_of, with_room, turn_of_first, is_any, may_turn, after_turns, served, IsLawful}
use Rattle.cache.specs.Laws.{OnlyServed, AllOnlyServed, OthersOnlyServed}
use Rattle.cache.proofs.Lawfulness.{log_changed, log_other}
use Rattle.cache.proofs.Evictions.{IsLessOldest, MayLoseOldest, may_lose, still_held, still_waits}
use Rattle.cache.proofs.Turns.{first_there, first_queued, room_made, first_turned}

-- the same hold and wait
pub same_served : (old new : List Entry) → waiting new ≡ waiting old → ((transfer : ℕ) → held_number new transfer ≡ held_number old transfer) → OnlyServed old new
same_served old new same held = record {
  number = zero;
  others_wait = same;
  holders_keep = λ transfer c is. held transfer ∙ is;
  first_hold = λ transfer there gone. absurd (false≢true (sym gone ∙ ap (λ (wants : List Want). list_any (λ (want : Want). want.transfer == transfer) wants) same ∙ there));
  nobody_else = λ transfer none out. held transfer ∙ none;
}

pub as_it_was : (log : List Entry) → OnlyServed log log
as_it_was log = same_served log log refl (λ transfer. refl)

-- first one, then the other
none_dropped : (n : ℕ) → (let none : List Want = [] in drop n none ≡ none)
none_dropped zero = refl
none_dropped (suc n) = refl

dropped_on : (n m : ℕ) (wants : List Want) → drop m (drop n wants) ≡ drop (n + m) wants
dropped_on zero m wants = ap (λ (k : ℕ). drop k wants) (omega arith)
dropped_on (suc n) m [] = none_dropped m ∙ sym (none_dropped (suc n + m))
dropped_on (suc n) m (want ∷ wants) = dropped_on n m wants ∙ ap (λ (k : ℕ). drop k (want ∷ wants)) (next n m)
  where
    next : (n m : ℕ) → suc (n + m) ≡ suc n + m
    next n m = omega arith

pub none_of_fewer : (test : Want → Bool) (n : ℕ) (wants : List Want) → list_any test wants ≡ false → list_any test (drop n wants) ≡ false
none_of_fewer test zero wants none = none
none_of_fewer test (suc n) [] none = none
none_of_fewer test (suc n) (want ∷ wants) none = none_of_fewer test n wants (second (test want) (list_any test wants) none)
  where
    second : (a b : Bool) → (a || b) ≡ false → b ≡ false
    second true b never = absurd (cc)
    second false b is = is

pub served_on : (first second third : List Entry) → OnlyServed first second → OnlyServed second third → OnlyServed first third
served_on first second third one other = record {
  number = one.number + other.number;
  others_wait = other.others_wait ∙ ap (drop other.number) one.others_wait ∙ dropped_on one.number other.number (waiting first);
  holders_keep = λ transfer c is. other.holders_keep transfer c (one.holders_keep transfer c is);
  first_hold = λ transfer there gone. by_wait transfer there gone (waits second transfer) refl;
  nobody_else = λ transfer none out. other.nobody_else transfer (one.nobody_else transfer none out)
      (ap (list_any (λ (want : Want). want.transfer == transfer)) one.others_wait ∙ none_of_fewer (λ (want : Want). want.transfer == transfer) one.number (waiting first) out);
}
  where
    holds_on : (transfer : ℕ) (held : Option ℕ) → held_number second transfer ≡ held → is_some held ≡ true → is_some (held_number third transfer) ≡ true
    holds_on transfer None is some = absurd (false≢true some)
    holds_on transfer (Some c) is some = ap is_some (other.holders_keep transfer c is)

    by_wait : (transfer : ℕ) → waits first transfer ≡ true → waits third transfer ≡ false → (still : Bool) → waits second transfer ≡ still → is_some (held_number third transfer) ≡ true
    by_wait transfer there gone true is = other.first_hold transfer is gone
    by_wait transfer there gone false is = holds_on transfer (held_number second transfer) refl (one.first_hold transfer there is)

-- the oldest is closed
pub less_oldest_served : (cause : Cause) (now : ℕ) (settings : LimitAndFirst) (old new : List Entry) → IsSound settings old → IsLessOldest cause now old new → OnlyServed old new
less_oldest_served cause now settings old new sound less = same_served old new (still_waits cause now settings old new sound less) (still_held cause now settings old new sound less)

-- a turn
started_only : (settings : LimitAndFirst) (moment : ℕ) (log : List Entry) → IsSound settings log → (head : Want) (others : List Want) → waiting log ≡ head ∷ others → waiting (start_new settings head moment log) ≡ others → OnlyServed log (start_new settings head moment log)
started_only settings moment log sound head others is left = record {
  number = 1;
  others_wait = left ∙ sym (ap (drop 1) is);
  holders_keep = λ transfer c held. elim (eqb_tells head.transfer transfer) [
    | inl same ↦
        let head_waits : waits log head.transfer ≡ true = ap (list_any (λ (want : Want). want.transfer == head.transfer)) is ∙ grind (arith, nat_tests) in
        let none : held_number log transfer ≡ None = ap (held_number log) (sym same.1) ∙ sound.orderly.waiting_free head.transfer head_waits in
        absurd (cc (held, none))
    | inr apart ↦ rw apart.0 held
  ];
  first_hold = λ transfer there gone.
      let is_head : (head.transfer == transfer) ≡ true = first_is transfer (sym (ap (list_any (λ (want : Want). want.transfer == transfer)) is) ∙ there) (ap (list_any (λ (want : Want). want.transfer == transfer)) (sym left) ∙ gone) in
      rw is_head refl;
  nobody_else = λ transfer none out.
      let apart : (head.transfer == transfer) ≡ false = not_first transfer (sym (ap (list_any (λ (want : Want). want.transfer == transfer)) is) ∙ out) in
      rw apart none;
}
  where
    first_is : (transfer : ℕ) → list_any (λ (want : Want). want.transfer == transfer) (head ∷ others) ≡ true → list_any (λ (want : Want). want.transfer == transfer) others ≡ false → (head.transfer == transfer) ≡ true
    first_is transfer there gone = grind (arith, nat_tests, there, gone)

    not_first : (transfer : ℕ) → list_any (λ (want : Want). want.transfer == transfer) (head ∷ others) ≡ false → (head.transfer == transfer) ≡ false
    not_first transfer out = grind (arith, nat_tests, out)

pub turn_served : (settings : LimitAndFirst) (log : List Entry) (now : ℕ) → IsSoundAndQuiet settings log → is_queued settings log ≡ true → OnlyServed log (after_turn Got settings log now)
turn_served settings log now settled queued = by_queue (waiting log) refl (turn_opens settings log now settled queued)
  where
    by_queue : (wants : List Want) → waiting log ≡ wants → OpensForHead settings log (open_for settings (moment_at log now) log wants) → OnlyServed log (open_for settings (moment_at log now) log wants)
    by_queue [] is opens = as_it_was log
    by_queue (head ∷ others) is opens = started_only settings (moment_at log now) log settled.sound head others is (ap (drop 1) (sym opens.head_starts ∙ is))

-- all hosts
pub all_as_they_were : (all : AllHosts) → AllOnlyServed all all
all_as_they_were all = record { count = refl; each = λ host there. as_it_was (log_at all host) }

pub all_served_on : (first second third : AllHosts) → AllOnlyServed first second → AllOnlyServed second third → AllOnlyServed first third
all_served_on first second third one other = record {
  count = other.count ∙ one.count;
  each = λ host there. served_on (log_at first host) (log_at second host) (log_at third host) (one.each host there) (other.each host (omega (arith, there, one.count)));
}

pub lost_served : (cause : Cause) (now : ℕ) (limits : Bounds) (all after : AllHosts) → IsLawful limits all → MayLoseOldest cause now limits all after → AllOnlyServed all after
lost_served cause now limits all after lawful lost = record {
  count = lost.count;
  each = λ host there. less_oldest_served cause now (terms limits) (log_at all host) (log_at after host) (lawful.settled host there).sound (lost.each host);
}

set_served : (all : AllHosts) (host : ℕ) (new : List Entry) (queue : List ℕ) → host < length all.logs → OnlyServed (log_at all host) new → AllOnlyServed all record { logs = slice_set all.logs host new; queue = queue }
set_served all host new queue there one = record {
  count = length-set all.logs host new;
  each = λ other lt. elim (eqb_tells other host) [
    | inl same ↦ subst (λ (i : ℕ). OnlyServed (log_at all i) (slice_index_or (slice_set all.logs host new) i [])) (sym same.1) (subst (OnlyServed (log_at all host)) (sym (log_changed all.logs host new there)) one)
    | inr apart ↦ subst (OnlyServed (log_at all other)) (sym (log_other all.logs host other new apart.1)) (as_it_was (log_at all other))
  ];
}

room_served : (limits : Bounds) (now : ℕ) (all : AllHosts) → IsLawful limits all → AllOnlyServed all (with_room limits now all)
room_served limits now all lawful = by_room (has_room limits all)
  where
    by_room : (room : Bool) → AllOnlyServed all (if room then all else without_oldest TotalRoom now all)
    by_room true = all_as_they_were all
    by_room false = lost_served TotalRoom now limits all (without_oldest TotalRoom now all) lawful (may_lose TotalRoom refl limits now all lawful)

first_served : (limits : Bounds) (now : ℕ) (all : AllHosts) → IsLawful limits all → may_turn limits all ≡ true → AllOnlyServed all (turn_of_first all.queue limits now all)
first_served limits now all lawful may = by_queue all.queue refl
  where
    by_queue : (queue : List ℕ) → all.queue ≡ queue → AllOnlyServed all (turn_of_first queue limits now all)
    by_queue [] is = all_as_they_were all
    by_queue (host ∷ others) is =
        let roomy = with_room limits now all in
        let made = room_made limits now all lawful (and_right (is_any all.queue) _ may) in
        let there = first_there limits roomy made.lawful host others (made.queue ∙ is) in
        let queued = first_queued limits roomy made.lawful host others (made.queue ∙ is) in
        let one = turn_served (terms limits) (log_at roomy host) now (made.lawful.settled host there) queued in
        all_served_on all roomy (after_turn_of host limits now roomy) (room_served limits now all lawful) (set_served roomy host _ _ there one)

turns_served : (n : ℕ) (limits : Bounds) (now : ℕ) (all : AllHosts) → IsLawful limits all → AllOnlyServed all (after_turns n limits now all)
turns_served zero limits now all lawful = all_as_they_were all
turns_served (suc n) limits now all lawful = by_turn (may_turn limits all) refl (λ later. turns_served n limits now later)
  where
    by_turn : (may : Bool) → may_turn limits all ≡ may → ((later : AllHosts) → IsLawful limits later → AllOnlyServed later (after_turns n limits now later))
        → AllOnlyServed all (if may then after_turns n limits now (turn_of_first all.queue limits now all) else all)
    by_turn false never rest = all_as_they_were all
    by_turn true may rest =
        let next = turn_of_first all.queue limits now all in
        all_served_on all next (after_turns n limits now next) (first_served limits now all lawful may) (rest next (first_turned limits now all lawful may).lawful)

pub serving_only_serves : (limits : Bounds) (all : AllHosts) (now : ℕ) → IsLawful limits all → AllOnlyServed all (served limits now all)
serving_only_serves limits all now lawful = turns_served (total_waiting all) limits now all lawful

-- the others, where one host is called
pub others_served : (one : ℕ) (all after : AllHosts) → AllOnlyServed all after → OthersOnlyServed one all after
others_served one all after served = record { count = served.count; each = λ other there apart. served.each other there }

pub others_served_on : (one : ℕ) (first second third : AllHosts) → OthersOnlyServed one first second → OthersOnlyServed one second third → OthersOnlyServed one first third
others_served_on one first second third once again = record {
  count = again.count ∙ once.count;
  each = λ other there apart. served_on (log_at first other) (log_at second other) (log_at third other) (once.each other there apart) (again.each other (omega (arith, there, once.count)) apart);
}

pub others_stay : (one : ℕ) (all : AllHosts) (new : List Entry) (queue : List ℕ) → OthersOnlyServed one all record { logs = slice_set all.logs one new; queue = queue }
others_stay one all new queue = record {
  count = length-set all.logs one new;
  each = λ other there apart. subst (OnlyServed (log_at all other)) (sym (log_other all.logs one other new apart)) (as_it_was (log_at all other));
}

-- a call at one host, and turns
pub call_serves : (limits : Bounds) (one : ℕ) (now : ℕ) (all later : AllHosts) → OthersOnlyServed one all later → IsLawful limits later → OthersOnlyServed one all (served limits now later)
call_serves limits one now all later once lawful = others_served_on one all later (served limits now later) once (others_served one later (served limits now later) (serving_only_serves limits later now lawful))
