-- The order of idle connections.
use Rattle.std.proofs.Common.{◌≡◌, ℕ, ◌-◌, ◌<◌, ◌≤◌, true, false, List, length, get_or, sym, subst, inl, inr, ◌∙◌, arith}
use Rattle.std.specs.List.Sorted.{IsPartitionedBy}
use Rattle.std.proofs.lemmas.Bool.Decides.{nat_tests}
use Rattle.std.proofs.lemmas.Bool.{cases_eq}
use Rattle.std.proofs.lemmas.List.{get_or_default}
use Rattle.host_state.specs.declared.idle.Idle.{Idle}
use Rattle.host_state.specs.Idle.{is_before, AreInOrder, IsPlaceFor}

-- one before the other before a third
pub before_before : (a b c d e f : ℕ) → is_before a b c d ≡ true → is_before c d e f ≡ true → is_before a b e f ≡ true
before_before a b c d e f first second = grind (arith, nat_tests, first, second)

-- in order, those that go before a new one come first
pub parted_by_order : {S : Type 0} (idle : List (Idle S)) (since number : ℕ) → AreInOrder idle → IsPartitionedBy (λ x. is_before x.since x.number since number) idle
parted_by_order idle since number ordered i j d le below later = elim (cases_eq i j) [
  | inl same ↦ subst (λ (k : ℕ). (let x = get_or idle k d in is_before x.since x.number since number) ≡ true) (sym same) later
  | inr apart ↦ (let x = get_or idle i d in let y = get_or idle j d in before_before x.since x.number y.since y.number since number (ordered i j d (omega arith) below) later)
]

-- where the one before the place goes before a new one, so do all before it
pub all_before : {S : Type 0} (idle : List (Idle S)) (since number place : ℕ) → AreInOrder idle → place ≤ length idle → 0 < place → (x : Idle S) → x ≡ get_or idle (place - 1) x → is_before x.since x.number since number ≡ true → ((k : ℕ) (d : Idle S) → place ≤ k → k < length idle → (let y = get_or idle k d in is_before y.since y.number since number) ≡ false) → IsPlaceFor since number idle place
all_before idle since number place ordered within above x read last after = record {
  in_range = within;
  before = λ k d lt.
      let last_read : (let y = get_or idle (place - 1) d in is_before y.since y.number since number) ≡ true = subst (λ y. is_before y.since y.number since number ≡ true) (read ∙ get_or_default idle (place - 1) x d (omega arith)) last in
      parted_by_order idle since number ordered k (place - 1) d (omega arith) (omega arith) last_read;
  after = after;
}
