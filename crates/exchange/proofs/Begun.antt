-- What is begun at a dial for a transfer, over one step after another.
use Rattle.std.proofs.Common.{◌≡◌, subst, ℕ, Option, Some, None, IsSomeAnd}
use Rattle.exchange.specs.declared.state.State.{State}
use Rattle.exchange.specs.declared.state.State.TheVariants as at
use Rattle.exchange.specs.Steps.{BeginsNone, DialsAlone}
use Rattle.exchange.specs.Exchanging.{BeginsItsOwn}

module _ {W : Type 0} (x y z : ℕ → Type 0) (transfer : ℕ) where
  alone_on : (a b c : State W) → DialsAlone x y transfer a b → DialsAlone y z transfer b c → DialsAlone x z transfer a c
  alone_on a b c first next = record { others = λ other apart begun. first.others other apart (next.others other apart begun); kept = λ other apart begun. next.kept other apart (first.kept other apart begun); own = λ none. next.own (first.own none) }

  pub begun_on : (a b c : Option (State W)) (same : ℕ) → same ≡ transfer → BeginsItsOwn x y transfer a b → BeginsItsOwn y z same b c → BeginsItsOwn x z transfer a c
  begun_on (Some a) (Some b) (Some c) same is first next = alone_on a b c first (subst (λ (n : ℕ). DialsAlone y z n b c) is next)
  begun_on (Some a) (Some b) None same is first next = absurd next
  begun_on (Some a) None c same is first next = absurd first
  begun_on None b c same is first next = absurd first

-- where less is begun, nothing is begun where nothing was
module _ {W : Type 0} (old new : ℕ → Type 0) (transfer : ℕ) (less : (other : ℕ) → new other → old other) where
  pub none_at : (state : State W) → BeginsNone old transfer state → BeginsNone new transfer state
  none_at at.Asking none = λ begun. none (less transfer begun)
  none_at (at.Waiting ticket) none = λ begun. none (less transfer begun)
  none_at (at.Dialling lease) none = tt
  none_at (at.Sending lease sent) none = λ begun. none (less transfer begun)
  none_at (at.Reading lease) none = λ begun. none (less transfer begun)
  none_at (at.Finished done) none = λ begun. none (less transfer begun)

  pub none_still : (state : Option (State W)) → IsSomeAnd state (BeginsNone old transfer) → IsSomeAnd state (BeginsNone new transfer)
  none_still (Some state) none = none_at state none
  none_still None none = absurd none

-- what is begun for a transfer is its own still, where a dial was told of something before
module _ {W : Type 0} (x y z : ℕ → Type 0) (transfer : ℕ) (less : (other : ℕ) → y other → x other) (more : (other : ℕ) → x other → y other) where
  alone_after : (a b : State W) → DialsAlone y z transfer a b → DialsAlone x z transfer a b
  alone_after a b next = record { others = λ other apart begun. less other (next.others other apart begun); kept = λ other apart begun. next.kept other apart (more other begun); own = λ none. next.own (none_at x y transfer less a none) }

  pub begun_after : (a b : Option (State W)) → BeginsItsOwn y z transfer a b → BeginsItsOwn x z transfer a b
  begun_after (Some a) (Some b) next = alone_after a b next
  begun_after (Some a) None next = absurd next
  begun_after None b next = absurd next
