-- The list of hosts that wait: how it stays a list of distinct hosts.
use Rattle.std.proofs.Common.{◌≡◌, ℕ, ◌<◌, ◌≤◌, true, false, not, ◌&&◌, ◌||◌, ◌==◌, List, [], ◌∷◌, ◌++◌, length, slice_get, Some, refl, sym, ap, ◌∙◌, inl, inr, eqb, eq-eqb, arith}
use Rattle.std.specs.List.{IsDistinct, AllByRecursion, list_any}
use Rattle.std.proofs.lemmas.Bool.Decides.{nat_tests, eqb_tells}
use Rattle.std.proofs.lemmas.Map.Steps.{length-le_from_distinct_below}
use Rattle.budget.specs.Lobby.{IsQueue, AreDistinctHosts, is_listed, without_host, turned}

-- a host at the end
pub listed_last : (order : List ℕ) (host other : ℕ) → is_listed (order ++ host ∷ []) other ≡ (is_listed order other || (host == other))
listed_last [] host other = grind (arith, nat_tests)
listed_last (x ∷ order) host other = grind (arith, nat_tests, listed_last order host other)

distinct_last : (order : List ℕ) (host : ℕ) → AreDistinctHosts order → is_listed order host ≡ false → AreDistinctHosts (order ++ host ∷ [])
distinct_last [] host once new = (refl, tt)
distinct_last (x ∷ order) host once new =
    let apart : (host == x) ≡ false = grind (arith, nat_tests, new) in
    let rest : is_listed order host ≡ false = grind (arith, nat_tests, new) in
    let out : is_listed (order ++ host ∷ []) x ≡ false = listed_last order host x ∙ grind (arith, nat_tests, once.0, apart) in
    (out, distinct_last order host once.1 rest)

pub queue_last : (hosts : ℕ) (order : List ℕ) (host : ℕ) → IsQueue record { hosts = hosts; order = order } → host < hosts → is_listed order host ≡ false
    → IsQueue record { hosts = hosts; order = order ++ host ∷ [] }
queue_last hosts order host queue there new = record {
  distinct = distinct_last order host queue.distinct new;
  there = λ other listed. elim (eqb_tells host other) [
    | inl same ↦ grind (arith, same.1, there)
    | inr apart ↦ queue.there other (grind (arith, nat_tests, listed_last order host other, listed, apart.0))
  ];
}

-- a host taken out
pub listed_without : (order : List ℕ) (host other : ℕ) → is_listed (without_host order host) other ≡ (is_listed order other && not (host == other))
listed_without [] host other = refl
listed_without (x ∷ order) host other = elim (eqb_tells x host) [
  | inl same ↦ rw same.0 (grind (arith, nat_tests, same.1, listed_without order host other))
  | inr differs ↦ rw differs.0 (grind (arith, nat_tests, differs.1, listed_without order host other))
]

pub gone : (order : List ℕ) (host : ℕ) → is_listed (without_host order host) host ≡ false
gone order host = grind (arith, nat_tests, listed_without order host host)

still_out : (order : List ℕ) (host other : ℕ) → is_listed order other ≡ false → is_listed (without_host order host) other ≡ false
still_out order host other out = listed_without order host other ∙ ap (λ b. b && not (host == other)) out

was_listed : (order : List ℕ) (host other : ℕ) → is_listed (without_host order host) other ≡ true → is_listed order other ≡ true
was_listed order host other listed = grind (arith, nat_tests, listed_without order host other, listed)

-- a host that isn't listed is not taken out
pub without_absent : (order : List ℕ) (host : ℕ) → is_listed order host ≡ false → without_host order host ≡ order
without_absent [] host out = refl
without_absent (x ∷ order) host out = elim (eqb_tells x host) [
  | inl same ↦ absurd (grind (arith, nat_tests, same.0, out))
  | inr differs ↦ rw differs.0 (ap (λ (l : List ℕ). x ∷ l) (without_absent order host (grind (arith, nat_tests, differs.0, out))))
]

distinct_without : (order : List ℕ) (host : ℕ) → AreDistinctHosts order → AreDistinctHosts (without_host order host)
distinct_without [] host once = tt
distinct_without (x ∷ order) host once = elim (eqb_tells x host) [
  | inl same ↦ rw same.0 (distinct_without order host once.1)
  | inr differs ↦ rw differs.0 (still_out order host x once.0, distinct_without order host once.1)
]

pub queue_without : (hosts : ℕ) (order : List ℕ) (host : ℕ) → IsQueue record { hosts = hosts; order = order } → IsQueue record { hosts = hosts; order = without_host order host }
queue_without hosts order host queue = record {
  distinct = distinct_without order host queue.distinct;
  there = λ other listed. queue.there other (was_listed order host other listed);
}

-- the first host at the end
pub queue_turned : (hosts host : ℕ) (order : List ℕ) → IsQueue record { hosts = hosts; order = host ∷ order } → IsQueue record { hosts = hosts; order = order ++ host ∷ [] }
queue_turned hosts host order queue = record {
  distinct = distinct_last order host queue.distinct.1 queue.distinct.0;
  there = λ other listed. queue.there other (grind (arith, nat_tests, listed_last order host other, listed));
}

-- the list turned
pub queue_turns : (hosts : ℕ) (order : List ℕ) → IsQueue record { hosts = hosts; order = order } → IsQueue record { hosts = hosts; order = turned order }
queue_turns hosts [] queue = queue
queue_turns hosts (host ∷ order) queue = queue_turned hosts host order queue

pub listed_turned : (order : List ℕ) (other : ℕ) → is_listed (turned order) other ≡ is_listed order other
listed_turned [] other = refl
listed_turned (x ∷ order) other = grind (arith, nat_tests, listed_last order x other)

-- the first host
pub listed_first : (order : List ℕ) (host : ℕ) → slice_get order 0 ≡ Some host → is_listed order host ≡ true
listed_first [] host first = absurd (cc)
listed_first (x ∷ order) host first = grind (arith, nat_tests, first)

pub without_first : (order : List ℕ) (host : ℕ) → AreDistinctHosts (host ∷ order) → without_host (host ∷ order) host ≡ order
without_first order host once = rw (eq-eqb host host refl) (without_absent order host once.0)

-- distinct hosts are no more than there are hosts
test_turned : (order : List ℕ) (host : ℕ) → list_any (eqb host) order ≡ is_listed order host
test_turned [] host = refl
test_turned (x ∷ order) host = grind (arith, nat_tests, test_turned order host)

all_apart : (order : List ℕ) (host : ℕ) → is_listed order host ≡ false → AllByRecursion (λ other. eqb host other ≡ false) order
all_apart [] host out = tt
all_apart (x ∷ order) host out = (grind (arith, nat_tests, out), all_apart order host (grind (arith, nat_tests, out)))

distinct_by_test : (order : List ℕ) → AreDistinctHosts order → IsDistinct eqb order
unfolding IsDistinct
distinct_by_test [] once = tt
distinct_by_test (x ∷ order) once = (all_apart order x once.0, distinct_by_test order once.1)

pub fits : (hosts : ℕ) (order : List ℕ) → IsQueue record { hosts = hosts; order = order } → length order ≤ hosts
fits hosts order queue = length-le_from_distinct_below order hosts (distinct_by_test order queue.distinct) (λ host listed. queue.there host (sym (test_turned order host) ∙ listed))
