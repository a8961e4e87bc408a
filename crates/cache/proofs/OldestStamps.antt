-- A host's oldest is no earlier once its log grew by what makes nothing idle, as an acquire does, and after a give
-- back no earlier than what is noted since an earlier moment.
use Rattle.std.proofs.Common.{◌≡◌, ◌⊎◌, ◌≤◌, ℕ, Bool, true, false, ◌&&◌, ◌||◌, List, [], ◌∷◌, Option, Some, None, is_none, refl, sym, ap, subst, inl, inr, ◌∙◌, arith}
use Rattle.std.specs.Prelude.{◌==◌, nat_lt, if◌then◌else◌}
use Rattle.std.specs.Option.{option_map, option_map_or}
use mathlib.Core.Bool.{false≢true}
use Rattle.std.proofs.lemmas.Bool.Decides.{nat_tests, eqb_tells}
use Rattle.std.proofs.Math.Nat.{le-max_left}
use Rattle.persistence.specs.declared.facts.Facts.{Facts}
use Rattle.budget.specs.declared.permits.Try.{Try}
use Rattle.budget.specs.declared.permits.Try.TheVariants.{Got, Full, Contended}
use Rattle.conn_log.specs.declared.entry.Want.{Want}
use Rattle.conn_log.specs.declared.entry.Cause.{Cause}
use Rattle.conn_log.specs.declared.entry.Cause.TheVariants.{HostRoom, TotalRoom}
use Rattle.conn_log.specs.declared.entry.Event.TheVariants.{Opened, Leased, Closed, Waited, Returned}
use Rattle.conn_log.specs.declared.entry.Entry.{Entry}
use Rattle.conn_log.specs.declared.stamp.Stamp.{Stamp}
use Rattle.conn_log.specs.Connections.{is_among, is_open, holder_want, idle_connections, is_idle, since, last_moment}
use Rattle.conn_log.specs.Legal.{owed, LimitAndFirst}
use Rattle.conn_log.specs.Waiting.{waiting}
use Rattle.conn_log.specs.Fit.{is_earlier, is_fit, is_idle_longer, first_by, newest_fit, oldest, oldest_stamp, stamp_of}
use Rattle.conn_log.proofs.Firsts.{first_among}
use Rattle.conn_log.proofs.Holdings.{holder_closed, holder_returned}
use Rattle.conn_log.proofs.Steps.{is_idle_is, is_open_is, open_before}
use Rattle.host_state.specs.Steps.{moment_at, add, close_each, cause_of, picked, is_full, next_number}
use Rattle.host_state.specs.declared.closing.Closing.TheVariants.{TooOld}
use Rattle.host_state.specs.Calls.{acquired, start, start_behind, start_on, start_as_told, start_in_place_of, start_in_place, start_new, open_for, grant_to, unfit_cause, settle, after_give_back}
use Rattle.host_state.specs.Effects.{tidied}
use Rattle.host_state.proofs.Soundness.{none_first}
use Rattle.cache.specs.Oldest.{is_before, is_since_before}

-- what is idle after it was idle before, and since then
pub record WasIdle (log after : List Entry) (c : ℕ) : Type 0 where
  pub idle : is_idle log c ≡ true
  pub since_same : since after c ≡ since log c

abbrev pub Idles : List Entry → List Entry → Type 0
Idles log after = (c : ℕ) → is_idle after c ≡ true → WasIdle log after c

idles_same : (log : List Entry) → Idles log log
idles_same log c idle = record { idle = idle; since_same = refl }

idles_on : (log mid after : List Entry) → Idles log mid → Idles mid after → Idles log after
idles_on log mid after first next c idle =
    let late = next c idle in
    let early = first c late.idle in
    record { idle = early.idle; since_same = late.since_same ∙ early.since_same }

pub idles_closed : (moment c : ℕ) (cause : Cause) (log : List Entry) → Idles log (add moment (Closed c cause) log)
idles_closed moment c cause log d idle = record {
  idle = grind (arith, nat_tests, idle, holder_closed moment c cause log d, is_idle_is (add moment (Closed c cause) log) d, is_open_is (add moment (Closed c cause) log) d, is_idle_is log d, is_open_is log d);
  since_same = refl;
}

idles_leased : (moment c : ℕ) (want : Want) (log : List Entry) → Idles log (add moment (Leased c want) log)
idles_leased moment c want log d idle = record {
  idle = grind (arith, nat_tests, idle, is_idle_is (add moment (Leased c want) log) d, is_open_is (add moment (Leased c want) log) d, is_idle_is log d, is_open_is log d);
  since_same = refl;
}

idles_opened : (moment c : ℕ) (want : Want) (log : List Entry) → Idles log (add moment (Opened c want) log)
idles_opened moment c want log d idle = elim (eqb_tells c d) [
  | inl same ↦ absurd (false≢true (sym (is_idle_is (add moment (Opened c want) log) d ∙ held same.0) ∙ idle))
  | inr other ↦ record {
    idle = grind (arith, nat_tests, idle, other.0, open_before c d moment want log other.0, is_idle_is (add moment (Opened c want) log) d, is_idle_is log d);
    since_same = refl;
  }
]
  where
    held : (c == d) ≡ true → (is_open (add moment (Opened c want) log) d && is_none (holder_want (add moment (Opened c want) log) d)) ≡ false
    held same = rw same (nothing (is_open (add moment (Opened c want) log) d))
      where
        nothing : (b : Bool) → (b && false) ≡ false
        nothing true = refl
        nothing false = refl

idles_waited : (moment : ℕ) (want : Want) (log : List Entry) → Idles log (add moment (Waited want) log)
idles_waited moment want log d idle = record { idle = idle; since_same = refl }

pub idles_each : (cause : Cause) (moment : ℕ) (numbers : List ℕ) (log : List Entry) → Idles log (close_each cause moment numbers log)
idles_each cause moment [] log = idles_same log
idles_each cause moment (c ∷ numbers) log =
    let closed = add moment (Closed c cause) log in
    idles_on log closed (close_each cause moment numbers closed) (idles_closed moment c cause log) (idles_each cause moment numbers closed)

-- an acquire makes nothing idle
module _ (settings : LimitAndFirst) (want : Want) (m : ℕ) (log : List Entry) where
  idles_in_place : (cause : Cause) (first : Option ℕ) → Idles log (start_in_place_of first cause settings want m log).log
  idles_in_place cause None = idles_waited m want log
  idles_in_place cause (Some c) =
      let closed = add m (Closed c cause) log in
      idles_on log closed _ (idles_closed m c cause log) (idles_opened m (next_number settings closed) want closed)

  idles_told : (is_last : Bool) (told : Try) → Idles log (start_as_told is_last told settings want m log).log
  idles_told is_last Got = idles_opened m (next_number settings log) want log
  idles_told is_last Contended = idles_same log
  idles_told false Full = idles_same log
  idles_told true Full = idles_in_place TotalRoom (oldest log)

  idles_full : (is_last : Bool) (told : Try) (full : Bool) → Idles log (if full then start_in_place HostRoom settings want m log else start_as_told is_last told settings want m log).log
  idles_full is_last told true = idles_in_place HostRoom (oldest log)
  idles_full is_last told false = idles_told is_last told

  idles_on_fit : (is_last : Bool) (told : Try) (fit : Option ℕ) → Idles log (start_on fit is_last told settings want m log).log
  idles_on_fit is_last told (Some c) = idles_leased m c want log
  idles_on_fit is_last told None = idles_full is_last told (is_full settings log)

idles_acquired : (is_last : Bool) (told : Try) (settings : LimitAndFirst) (log : List Entry) (want : Want) (now : ℕ) → Idles log (acquired is_last told settings log want now).log
idles_acquired is_last told settings log want now = by_queue (waiting log)
  where
    by_queue : (wants : List Want) → Idles log (start_behind wants is_last told settings want (moment_at log now) log).log
    by_queue [] =
        let m = moment_at log now in
        let young = tidied want m log in
        idles_on log young (start is_last told settings want m young).log (idles_each (cause_of (TooOld want)) m (picked (TooOld want) m log) log) (idles_on_fit settings want m young is_last told (newest_fit young want m))
    by_queue (head ∷ others) = idles_waited (moment_at log now) want log

-- none of those listed goes before the first
goes_on : (log : List Entry) (c d x : ℕ) → is_idle_longer log c d ≡ false → is_idle_longer log d x ≡ false → is_idle_longer log c x ≡ false
goes_on log c d x first next = grind (arith, nat_tests, first, next)

turned : (log : List Entry) (c d : ℕ) → is_idle_longer log c d ≡ true → is_idle_longer log d c ≡ false
turned log c d is = grind (arith, nat_tests, is)

never_itself : (log : List Entry) (c : ℕ) → is_idle_longer log c c ≡ false
never_itself log c = grind (arith, nat_tests)

none_before : (log : List Entry) (numbers : List ℕ) (d : ℕ) → first_by (is_idle_longer log) numbers ≡ Some d → (c : ℕ) → is_among c numbers ≡ true → is_idle_longer log c d ≡ false
none_before log [] d is c among = absurd (cc)
none_before log (x ∷ numbers) d is c among = by_rest (λ e found there. none_before log numbers e found c there) (first_by (is_idle_longer log) numbers) refl is
  where
    here_or_there : (x == c) ≡ false → is_among c numbers ≡ true
    here_or_there other = grind (arith, nat_tests, among, other)

    by_rest : ((e : ℕ) → first_by (is_idle_longer log) numbers ≡ Some e → is_among c numbers ≡ true → is_idle_longer log c e ≡ false) → (rest : Option ℕ) → first_by (is_idle_longer log) numbers ≡ rest → Some (option_map_or (λ e. if is_idle_longer log e x then e else x) rest x) ≡ Some d → is_idle_longer log c d ≡ false
    by_rest others None rest_is some = elim (eqb_tells x c) [
      | inl same ↦ subst (λ (n : ℕ). is_idle_longer log c n ≡ false) (sym same.1 ∙ is_x some) (never_itself log c)
      | inr other ↦ absurd (false≢true (ap (is_among c) (sym (none_first (is_idle_longer log) numbers rest_is)) ∙ here_or_there other.0))
    ]
      where
        is_x : Some x ≡ Some d → x ≡ d
        is_x e = cc
    by_rest others (Some e) rest_is some = by_order (is_idle_longer log e x) refl some
      where
        after_e : (x == c) ≡ false → is_idle_longer log c e ≡ false
        after_e other = others e rest_is (here_or_there other)

        is_number : (n : ℕ) → Some n ≡ Some d → n ≡ d
        is_number n same = cc

        by_order : (sooner : Bool) → is_idle_longer log e x ≡ sooner → Some (if sooner then e else x) ≡ Some d → is_idle_longer log c d ≡ false
        by_order true order same = subst (λ (n : ℕ). is_idle_longer log c n ≡ false) (is_number e same) (elim (eqb_tells x c) [
          | inl here ↦ subst (λ (n : ℕ). is_idle_longer log n e ≡ false) here.1 (turned log e x order)
          | inr other ↦ after_e other.0
        ])
        by_order false order same = subst (λ (n : ℕ). is_idle_longer log c n ≡ false) (is_number x same) (elim (eqb_tells x c) [
          | inl here ↦ subst (λ (n : ℕ). is_idle_longer log n x ≡ false) here.1 (never_itself log x)
          | inr other ↦ goes_on log c e x (after_e other.0) order
        ])

-- so the oldest is no earlier
at_any_host : (s t host c d : ℕ) → (nat_lt s t || ((s == t) && (nat_lt 0 0 || ((0 == 0) && nat_lt c d)))) ≡ false → (nat_lt s t || ((s == t) && (nat_lt host host || ((host == host) && nat_lt c d)))) ≡ false
at_any_host s t host c d is = grind (arith, nat_tests, is)

still_behind : (log after : List Entry) (host c : ℕ) → WasIdle log after c → is_before (Some (stamp_of after host c)) (oldest_stamp log host) ≡ false
still_behind log after host c was = by_log (oldest log) refl
  where
    by_log : (first : Option ℕ) → oldest log ≡ first → is_before (Some (stamp_of after host c)) (option_map (stamp_of log host) first) ≡ false
    by_log None none = absurd (false≢true (ap (is_among c) (sym (none_first (is_idle_longer log) (idle_connections log) none)) ∙ was.idle))
    by_log (Some d) first =
        let behind = none_before log (idle_connections log) d first c was.idle in
        ap (λ (n : ℕ). is_earlier (record { since = n; host = host; number = c }) (stamp_of log host d)) was.since_same ∙ at_any_host (since log c) (since log d) host c d behind

rises : (log after : List Entry) (host : ℕ) → Idles log after → is_before (oldest_stamp after host) (oldest_stamp log host) ≡ false
rises log after host idles = by_after (oldest after) refl
  where
    by_after : (found : Option ℕ) → oldest after ≡ found → is_before (option_map (stamp_of after host) found) (oldest_stamp log host) ≡ false
    by_after None is = refl
    by_after (Some c) is = still_behind log after host c (idles c (first_among (is_idle_longer after) (idle_connections after) c is))

-- no earlier than what is no earlier
not_earlier_on : (x y z : Stamp) → is_earlier x y ≡ false → is_earlier y z ≡ false → is_earlier x z ≡ false
not_earlier_on x y z first next = grind (arith, nat_tests, first, next)

not_before_on : (x y z : Option Stamp) → is_before x y ≡ false → is_before y z ≡ false → is_before x z ≡ false
not_before_on None y z first next = refl
not_before_on (Some x) None z first next = absurd (false≢true (sym first))
not_before_on (Some x) (Some y) None first next = absurd (false≢true (sym next))
not_before_on (Some x) (Some y) (Some z) first next = not_earlier_on x y z first next

-- what was noted for the host is no later still
pub still_not_later : (is_last : Bool) (told : Try) (settings : LimitAndFirst) (log after : List Entry) (want : Want) (now host : ℕ) (noted : Option Stamp) → after ≡ (acquired is_last told settings log want now).log
    → is_before (oldest_stamp log host) noted ≡ false → is_before (oldest_stamp after host) noted ≡ false
still_not_later is_last told settings log after want now host noted is before =
    not_before_on (oldest_stamp after host) (oldest_stamp log host) noted
    (ap (λ (l : List Entry). is_before (oldest_stamp l host) (oldest_stamp log host)) is ∙ rises log (acquired is_last told settings log want now).log host (idles_acquired is_last told settings log want now)) before

-- what is idle after it is idle since that moment, or was idle before
abbrev IdlesSince : ℕ → List Entry → List Entry → Type 0
IdlesSince m log after = (c : ℕ) → is_idle after c ≡ true → (since after c ≡ m) ⊎ WasIdle log after c

since_on : (m : ℕ) (log mid after : List Entry) → IdlesSince m log mid → Idles mid after → IdlesSince m log after
since_on m log mid after first next c idle =
    let late = next c idle in
    elim (first c late.idle) [
      | inl here ↦ inl (late.since_same ∙ here)
      | inr was ↦ inr (record { idle = was.idle; since_same = late.since_same ∙ was.since_same })
    ]

since_returned : (m c : ℕ) (facts : Facts) (log : List Entry) → IdlesSince m log (add m (Returned c facts) log)
since_returned m c facts log d idle = elim (eqb_tells c d) [
  | inl same ↦ inl (ap (λ (b : Bool). if b then m else since log d) same.0)
  | inr other ↦ inr (record {
    idle = grind (arith, nat_tests, idle, held other.0, is_idle_is (add m (Returned c facts) log) d, is_open_is (add m (Returned c facts) log) d, is_idle_is log d, is_open_is log d);
    since_same = ap (λ (b : Bool). if b then m else since log d) other.0;
  })
]
  where
    held : (c == d) ≡ false → holder_want (add m (Returned c facts) log) d ≡ holder_want log d
    held other = holder_returned m c facts log d ∙ ap (λ (b : Bool). if b then None else holder_want log d) other

-- a give back makes nothing else idle
module _ (settings : LimitAndFirst) (c m : ℕ) (log : List Entry) where
  idles_new : (head : Want) (mid : List Entry) → Idles mid (start_new settings head m mid)
  idles_new head mid = idles_opened m (next_number settings mid) head mid

  idles_open_for : (mid : List Entry) (wants : List Want) → Idles mid (open_for settings m mid wants)
  idles_open_for mid [] = idles_same mid
  idles_open_for mid (head ∷ others) = idles_new head mid

  idles_granted : (wants : List Want) → Idles log (grant_to settings c m log wants)
  idles_granted [] = idles_same log
  idles_granted (head ∷ others) = by_fit (is_fit log head m c)
    where
      closed : List Entry
      closed = add m (Closed c (unfit_cause settings log head m c)) log

      by_fit : (fits : Bool) → Idles log (if fits then add m (Leased c head) log else start_new settings head m closed)
      by_fit true = idles_leased m c head log
      by_fit false = idles_on log closed (start_new settings head m closed) (idles_closed m c (unfit_cause settings log head m c) log) (idles_new head closed)

  idles_settled : (close : Option (ℕ × Cause)) → Idles log (settle settings c m log close)
  idles_settled None = idles_granted (waiting log)
  idles_settled (Some close) =
      let closed = add m (Closed close.0 close.1) log in
      idles_on log closed (open_for settings m closed (waiting closed)) (idles_closed m close.0 close.1 log) (idles_open_for closed (waiting closed))

-- what is idle since that moment is not before what is since an earlier one
since_now : (s x : Stamp) (now m : ℕ) → nat_lt s.since now ≡ true → now ≤ m → x.since ≡ m → is_earlier x s ≡ false
since_now s x now m before le here = grind (arith, nat_tests, before, le, here)

-- what was noted for the host since an earlier moment is no later still after a give back
pub given_back_not_later : (settings : LimitAndFirst) (log after : List Entry) (c : ℕ) (facts : Facts) (now host : ℕ) (noted : Option Stamp) → after ≡ after_give_back settings log c facts now
    → is_since_before noted now ≡ true → is_before (oldest_stamp log host) noted ≡ false → is_before (oldest_stamp after host) noted ≡ false
given_back_not_later settings log after c facts now host None is early before = absurd (false≢true early)
given_back_not_later settings log after c facts now host (Some s) is early before =
    ap (λ (l : List Entry). is_before (oldest_stamp l host) (Some s)) is ∙ by_found (oldest due) refl
  where
    m : ℕ
    m = moment_at log now

    back : List Entry
    back = add m (Returned c facts) log

    due : List Entry
    due = after_give_back settings log c facts now

    idles : IdlesSince m log due
    idles = since_on m log back due (since_returned m c facts log) (idles_settled settings c m back (owed back))

    by_found : (found : Option ℕ) → oldest due ≡ found → is_before (option_map (stamp_of due host) found) (Some s) ≡ false
    by_found None first = refl
    by_found (Some d) first = elim (idles d (first_among (is_idle_longer due) (idle_connections due) d first)) [
      | inl here ↦ since_now s (stamp_of due host d) now m early (le-max_left now (last_moment log)) here
      | inr was ↦ not_before_on (Some (stamp_of due host d)) (oldest_stamp log host) (Some s) (still_behind log due host d was) before
    ]
