-- Which of two stamps is before the other, and the earliest of many. None is later than any stamp.
use Rattle.std.proofs.Common.{◌≡◌, ◌⊎◌, ℕ, zero, suc, ◌+◌, ◌<◌, ◌≤◌, ◌≢◌, Bool, true, false, ◌&&◌, ◌||◌, List, [], ◌∷◌, length, slice_index_or, slice_set, Option, Some, None, refl, sym, ap, subst, inl, inr, ◌∙◌, arith}
use Rattle.std.specs.Option.{option_map, IfSome}
use mathlib.Core.Bool.{false≢true}
use Rattle.std.specs.Prelude.{◌==◌, nat_lt, if◌then◌else◌}
use Rattle.std.proofs.lemmas.Bool.Decides.{nat_tests}
use Rattle.conn_log.specs.declared.stamp.Stamp.{Stamp}
use Rattle.conn_log.specs.declared.entry.Entry.{Entry}
use Rattle.conn_log.specs.Fit.{is_earlier, stamp_of, oldest, oldest_stamp}
use Rattle.cache.specs.Oldest.{earlier_of, is_before, earliest, stamp_at, stamps_from}
use Rattle.cache.proofs.NotedStamps.{not_before_itself}

decided : (b : Bool) → (b ≡ true) ⊎ (b ≡ false)
decided true = inl refl
decided false = inr refl

-- one number is below the other, or it is not
pub within : (a b : ℕ) → (a < b) ⊎ (b ≤ a)
within a b = by_test (nat_lt a b) refl
  where
    by_test : (t : Bool) → nat_lt a b ≡ t → (a < b) ⊎ (b ≤ a)
    by_test true is = inl (grind (arith, nat_tests, is))
    by_test false is = inr (grind (arith, nat_tests, is))

-- an order of stamps that tells any two apart
earlier_one_way : (x y : Stamp) → is_earlier x y ≡ true → is_earlier y x ≡ false
earlier_one_way x y earlier = grind (arith, nat_tests, earlier)

not_earlier_onward : (x y z : Stamp) → is_earlier x y ≡ false → is_earlier y z ≡ false → is_earlier x z ≡ false
not_earlier_onward x y z first second = grind (arith, nat_tests, first, second)

same_stamp : (x y : Stamp) → x.since ≡ y.since → x.host ≡ y.host → x.number ≡ y.number → x ≡ y
same_stamp x y since host number =
    ap (λ (n : ℕ). record { since = n; host = x.host; number = x.number }) since
    ∙ ap (λ (n : ℕ). record { since = y.since; host = n; number = x.number }) host
    ∙ ap (λ (n : ℕ). record { since = y.since; host = y.host; number = n }) number

same_since : (a b c d e f : ℕ) → (nat_lt a b || ((a == b) && (nat_lt c d || ((c == d) && nat_lt e f)))) ≡ false → (nat_lt b a || ((b == a) && (nat_lt d c || ((d == c) && nat_lt f e)))) ≡ false → (a ≡ b) × (c ≡ d) × (e ≡ f)
same_since a b c d e f first second = (grind (arith, nat_tests, first, second), grind (arith, nat_tests, first, second), grind (arith, nat_tests, first, second))

earlier_tie : (x y : Stamp) → is_earlier x y ≡ false → is_earlier y x ≡ false → x ≡ y
earlier_tie x y first second = let same = same_since x.since y.since x.host y.host x.number y.number first second in same_stamp x y same.0 same.1 same.2

-- the same with none
pub before_one_way : (x y : Option Stamp) → is_before x y ≡ true → is_before y x ≡ false
before_one_way None y before = absurd (cc)
before_one_way (Some x) None before = refl
before_one_way (Some x) (Some y) before = earlier_one_way x y before

pub not_before_onward : (x y z : Option Stamp) → is_before x y ≡ false → is_before y z ≡ false → is_before x z ≡ false
not_before_onward None y z first second = refl
not_before_onward (Some x) None z first second = absurd (cc)
not_before_onward (Some x) (Some y) None first second = absurd (cc)
not_before_onward (Some x) (Some y) (Some z) first second = not_earlier_onward x y z first second

-- what is before a stamp is before each one that is not
pub before_beyond : (x y z : Option Stamp) → is_before x y ≡ true → is_before z y ≡ false → is_before x z ≡ true
before_beyond x y z before later = elim (decided (is_before x z)) [
  | inl is ↦ is
  | inr not ↦ absurd (false≢true (sym (not_before_onward x z y not later) ∙ before))
]

pub before_tie : (x y : Option Stamp) → is_before x y ≡ false → is_before y x ≡ false → x ≡ y
before_tie None None first second = refl
before_tie None (Some y) first second = absurd (cc)
before_tie (Some x) None first second = absurd (cc)
before_tie (Some x) (Some y) first second = ap Some (earlier_tie x y first second)

-- the earlier one is no later than either, and it is one of them
pub first_before : (x y : Option Stamp) → is_before x (earlier_of x y) ≡ false
first_before None y = refl
first_before (Some x) None = not_before_itself (Some x)
first_before (Some x) (Some y) = elim (decided (is_earlier y x)) [
  | inl earlier ↦ rw earlier (earlier_one_way y x earlier)
  | inr later ↦ rw later (not_before_itself (Some x))
]

pub second_before : (x y : Option Stamp) → is_before y (earlier_of x y) ≡ false
second_before None y = not_before_itself y
second_before (Some x) None = refl
second_before (Some x) (Some y) = elim (decided (is_earlier y x)) [
  | inl earlier ↦ rw earlier (not_before_itself (Some y))
  | inr later ↦ rw later later
]

pub earlier_not_before : (x y z : Option Stamp) → is_before x z ≡ false → is_before y z ≡ false → is_before (earlier_of x y) z ≡ false
earlier_not_before None y z first second = second
earlier_not_before (Some x) None z first second = first
earlier_not_before (Some x) (Some y) z first second = elim (decided (is_earlier y x)) [
  | inl earlier ↦ rw earlier second
  | inr later ↦ rw later first
]

-- as the one before the other
pub earlier_is : (x y : Option Stamp) → earlier_of x y ≡ (if is_before y x then y else x)
earlier_is None None = refl
earlier_is None (Some y) = refl
earlier_is (Some x) None = refl
earlier_is (Some x) (Some y) = refl

-- the earliest is no later than each
pub earliest_before : (stamps : List (Option Stamp)) (place : ℕ) → is_before (stamp_at stamps place) (earliest stamps) ≡ false
earliest_before [] place = refl
earliest_before (stamp ∷ stamps) zero = first_before stamp (earliest stamps)
earliest_before (stamp ∷ stamps) (suc place) = not_before_onward (stamp_at stamps place) (earliest stamps) (earlier_of stamp (earliest stamps)) (earliest_before stamps place) (second_before stamp (earliest stamps))

-- and no earlier than what none is before
pub earliest_not_before : (stamps : List (Option Stamp)) (other : Option Stamp) → ((place : ℕ) → place < length stamps → is_before (stamp_at stamps place) other ≡ false) → is_before (earliest stamps) other ≡ false
earliest_not_before [] other none = refl
earliest_not_before (stamp ∷ stamps) other none =
    earlier_not_before stamp (earliest stamps) other (none zero (omega arith)) (earliest_not_before stamps other (λ place there. none (suc place) (omega (arith, there))))

pub earliest_is : (stamps : List (Option Stamp)) (other : Option Stamp) → ((place : ℕ) → place < length stamps → is_before (stamp_at stamps place) other ≡ false) → is_before other (earliest stamps) ≡ false → earliest stamps ≡ other
earliest_is stamps other none first = before_tie (earliest stamps) other (earliest_not_before stamps other none) first

-- where no stamp noted is later than the true one, the earliest noted is the earliest where it is true
module _ (noted stamps : List (Option Stamp)) (same : length noted ≡ length stamps) (not_later : (place : ℕ) → place < length stamps → is_before (stamp_at stamps place) (stamp_at noted place) ≡ false) where
  none_before_noted : (place : ℕ) → place < length stamps → is_before (stamp_at stamps place) (earliest noted) ≡ false
  none_before_noted place there = not_before_onward (stamp_at stamps place) (stamp_at noted place) (earliest noted) (not_later place there) (earliest_before noted place)

  pub earliest_noted : (stamp : Stamp) → earliest noted ≡ Some stamp → stamp_at stamps stamp.host ≡ Some stamp → earliest stamps ≡ Some stamp
  earliest_noted stamp first true_there =
      earliest_is stamps (Some stamp) (λ place there. ap (is_before (stamp_at stamps place)) (sym first) ∙ none_before_noted place there) (ap (λ x. is_before x (earliest stamps)) (sym true_there) ∙ earliest_before stamps stamp.host)

  pub none_noted : earliest noted ≡ None → earliest stamps ≡ None
  none_noted first = earliest_is stamps None (λ place there. ap (is_before (stamp_at stamps place)) (sym first) ∙ none_before_noted place there) refl

-- the earliest is one of them
earlier_either : (x y : Option Stamp) → (earlier_of x y ≡ x) ⊎ (earlier_of x y ≡ y)
earlier_either None y = inr refl
earlier_either (Some x) None = inl refl
earlier_either (Some x) (Some y) = elim (decided (is_earlier y x)) [
  | inl earlier ↦ inr (rw earlier refl)
  | inr later ↦ inl (rw later refl)
]

pub earliest_among : (stamps : List (Option Stamp)) (stamp : Stamp) → earliest stamps ≡ Some stamp → (place : ℕ) × (place < length stamps) × (stamp_at stamps place ≡ Some stamp)
earliest_among [] stamp first = absurd (cc)
earliest_among (x ∷ stamps) stamp first = elim (earlier_either x (earliest stamps)) [
  | inl here ↦ (zero, omega arith, sym here ∙ first)
  | inr later ↦ let rest = earliest_among stamps stamp (sym later ∙ first) in (suc rest.0, omega (arith, rest.1), rest.2)
]

-- where each is a stamp of its own host, it stands at its host
pub earliest_own : (stamps : List (Option Stamp)) → ((host : ℕ) → host < length stamps → IfSome (stamp_at stamps host) (λ (s : Stamp). s.host ≡ host)) → (stamp : Stamp) → earliest stamps ≡ Some stamp → stamp_at stamps stamp.host ≡ Some stamp
earliest_own stamps own stamp first =
    let found = earliest_among stamps stamp first in
    let here : stamp.host ≡ found.0 = subst (λ (x : Option Stamp). IfSome x (λ (s : Stamp). s.host ≡ found.0)) found.2 (own found.0 found.1) in
    ap (stamp_at stamps) here ∙ found.2

-- where a stamp is there is a place
pub there_at : (stamps : List (Option Stamp)) (place : ℕ) (stamp : Stamp) → stamp_at stamps place ≡ Some stamp → place < length stamps
there_at [] place stamp here = absurd (cc)
there_at (x ∷ stamps) zero stamp here = omega arith
there_at (x ∷ stamps) (suc place) stamp here = omega (arith, there_at stamps place stamp here)

-- a stamp that is no later than the true one, and not it, is before it
pub before_true : (noted stamp : Option Stamp) → is_before stamp noted ≡ false → stamp ≢ noted → is_before noted stamp ≡ true
before_true noted stamp not_later apart = elim (decided (is_before noted stamp)) [
  | inl before ↦ before
  | inr later ↦ absurd (apart (before_tie stamp noted not_later later))
]

-- how many stamps noted are before the true ones
abbrev pub stale : List (Option Stamp) → List (Option Stamp) → ℕ
stale [] stamps = 0
stale (noted ∷ others) [] = 0
stale (noted ∷ others) (stamp ∷ stamps) = (if is_before noted stamp then 1 else 0) + stale others stamps

-- one fewer once one is set to the true one
pub fewer_stale : (noted stamps : List (Option Stamp)) (place : ℕ) → length noted ≡ length stamps → place < length stamps → is_before (stamp_at noted place) (stamp_at stamps place) ≡ true → stale (slice_set noted place (stamp_at stamps place)) stamps < stale noted stamps
fewer_stale [] [] place same there before = absurd (omega arith)
fewer_stale [] (stamp ∷ stamps) place same there before = absurd (omega arith)
fewer_stale (x ∷ noted) [] place same there before = absurd (omega arith)
fewer_stale (x ∷ noted) (stamp ∷ stamps) zero same there before = rw (not_before_itself stamp, before) (omega arith)
fewer_stale (x ∷ noted) (stamp ∷ stamps) (suc place) same there before = omega (arith, fewer_stale noted stamps place (omega arith) (omega arith) before)

-- each host's oldest
pub length_stamps : (from : ℕ) (logs : List (List Entry)) → length (stamps_from from logs) ≡ length logs
length_stamps from [] = refl
length_stamps from (log ∷ logs) = ap suc (length_stamps (suc from) logs)

pub stamp_from : (from : ℕ) (logs : List (List Entry)) (place : ℕ) → place < length logs → stamp_at (stamps_from from logs) place ≡ oldest_stamp (slice_index_or logs place []) (from + place)
stamp_from from [] place there = absurd (omega arith)
stamp_from from (log ∷ logs) zero there = ap (oldest_stamp log) (omega arith)
stamp_from from (log ∷ logs) (suc place) there = stamp_from (suc from) logs place (omega arith) ∙ ap (oldest_stamp (slice_index_or logs place [])) (omega arith)

pub own_host : (log : List Entry) (host : ℕ) → IfSome (oldest_stamp log host) (λ (s : Stamp). s.host ≡ host)
own_host log host = of_found (oldest log)
  where
    of_found : (found : Option ℕ) → IfSome (option_map (stamp_of log host) found) (λ (s : Stamp). s.host ≡ host)
    of_found None = tt
    of_found (Some c) = refl

-- where nothing is idle at any host there is none
pub none_oldest : (from : ℕ) (logs : List (List Entry)) → ((place : ℕ) → place < length logs → oldest (slice_index_or logs place []) ≡ None) → earliest (stamps_from from logs) ≡ None
none_oldest from [] none = refl
none_oldest from (log ∷ logs) none =
    let here : oldest_stamp log from ≡ None = ap (option_map (stamp_of log from)) (none zero (omega arith)) in
    let rest = none_oldest (suc from) logs (λ place there. none (suc place) (omega (arith, there))) in
    ap (λ x. earlier_of x (earliest (stamps_from (suc from) logs))) here ∙ rest
