-- What stands at the place of what a transfer was granted.
use Rattle.std.proofs.Common.{◌≡◌, ℕ, zero, suc, ◌<◌, false, List, [], ◌∷◌, length, get_or, Some, None, refl, sym, ap, arith}
use Rattle.std.specs.Prelude.{◌==◌}
use Rattle.std.specs.List.{remove}
use Rattle.bundle.specs.declared.grant.Grant.{Grant}
use Rattle.bundle.specs.Grants.{grant_of, without_grant, IsPlaceOf}

module _ {S : Type 0} where
  pub none_granted : (grants : List (Grant S)) (transfer : ℕ) → ((k : ℕ) (d : Grant S) → k < length grants → ((get_or grants k d).want.transfer == transfer) ≡ false) → grant_of grants transfer ≡ None
  none_granted [] transfer none = refl
  none_granted (x ∷ others) transfer none = rw (none 0 x (omega arith)) (none_granted others transfer (λ k d range. none (suc k) d (omega (arith, range))))

  pub without_none : (grants : List (Grant S)) (transfer : ℕ) → ((k : ℕ) (d : Grant S) → k < length grants → ((get_or grants k d).want.transfer == transfer) ≡ false) → without_grant transfer grants ≡ grants
  without_none [] transfer none = refl
  without_none (x ∷ others) transfer none = rw (none 0 x (omega arith)) (ap (λ rest. x ∷ rest) (without_none others transfer (λ k d range. none (suc k) d (omega (arith, range)))))

  pub grant_at : (grants : List (Grant S)) (transfer place : ℕ) (x : Grant S) → IsPlaceOf transfer grants place → x ≡ get_or grants place x → grant_of grants transfer ≡ Some x
  grant_at [] transfer place x found is = absurd (omega (arith, found.in_range))
  grant_at (y ∷ others) transfer zero x found is = rw (found.here x) (ap (λ (g : Grant S). Some g) (sym is))
  grant_at (y ∷ others) transfer (suc place) x found is = rw (found.none_before 0 x (omega arith)) (grant_at others transfer place x (record { in_range = omega (arith, found.in_range); here = found.here; none_before = λ k d before. found.none_before (suc k) d (omega (arith, before)) }) is)

  pub removed_at : (grants : List (Grant S)) (transfer place : ℕ) (x : Grant S) → IsPlaceOf transfer grants place → remove grants place ≡ without_grant transfer grants
  removed_at [] transfer place x found = absurd (omega (arith, found.in_range))
  removed_at (y ∷ others) transfer zero x found = rw (found.here x) refl
  removed_at (y ∷ others) transfer (suc place) x found = rw (found.none_before 0 x (omega arith)) (ap (λ rest. y ∷ rest) (removed_at others transfer place x (record { in_range = omega (arith, found.in_range); here = found.here; none_before = λ k d before. found.none_before (suc k) d (omega (arith, before)) })))
