-- What calls do to the pool behind a handle.
use Rattle.std.specs.Prelude.{◌≡◌, ℕ, List, Option, Some, None, option_and_then}
use Rattle.held_pool.specs.Calls.{HeldShown}
use Rattle.curlpool_c.specs.declared.inner.Inner.{Inner}
use Rattle.curlpool_c.specs.declared.status.TheConstants.{CLOSED}

-- the open pool behind a handle
abbrev pub held_behind : Option Inner → Option HeldShown
held_behind inner = option_and_then (λ (there : Inner). there.held) inner

-- a call does that to an open pool; without one it answers so, and changes nothing
abbrev pub OnHeld : Option HeldShown → Option HeldShown → ℕ → (HeldShown → HeldShown → Type 0) → Type 0
OnHeld None new status Does = (new ≡ None) × (status ≡ CLOSED)
OnHeld (Some old) (Some new) status Does = Does old new
OnHeld (Some old) None status Does = ⊥

-- the same for what only reads
abbrev pub OfHeld : Option HeldShown → ℕ → (HeldShown → Type 0) → Type 0
OfHeld None status Does = status ≡ CLOSED
OfHeld (Some held) status Does = Does held

-- what is told beside the pool stays: the tokens that are left of a pool, and how much of each log was told
pub record SameBeside (old new : Inner) : Type 0 where
  pub closing : new.closing ≡ old.closing
  pub told : new.told ≡ old.told

-- the same behind a handle: beside the pool, all stays
abbrev pub OnBehind : Option Inner → Option Inner → ℕ → (HeldShown → HeldShown → Type 0) → Type 0
OnBehind None new status Does = (new ≡ None) × (status ≡ CLOSED)
OnBehind (Some old) (Some new) status Does = OnHeld old.held new.held status Does × SameBeside old new
OnBehind (Some old) None status Does = ⊥

abbrev pub OfBehind : Option Inner → Option Inner → ℕ → (HeldShown → Type 0) → Type 0
OfBehind None new status Does = (new ≡ None) × (status ≡ CLOSED)
OfBehind (Some old) new status Does = (new ≡ Some old) × OfHeld old.held status Does
