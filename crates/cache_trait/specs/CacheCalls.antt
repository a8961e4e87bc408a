-- What a cache does at its calls.
use Rattle.std.specs.Prelude.{◌≡◌, ℕ, ◌⊎◌, List, [], ◌∷◌}
use Rattle.persistence.specs.declared.facts.Facts.{Facts}
use Rattle.conn_log.specs.declared.entry.Want.{Want}
use Rattle.budget.specs.declared.refusal.Refusal.{Refusal}
use Rattle.bundle.specs.Lease.{Leasing, Ticketed}
use Rattle.bundle.specs.declared.answers.Acquired.{Acquired}
use Rattle.bundle.specs.declared.answers.Acquired.TheVariants.{Lease, Wait}
use Rattle.bundle.specs.declared.answers.Claimed.{Claimed}
use Rattle.bundle.specs.declared.answers.Claimed.TheVariants.{Lease as Granted, Still}

-- what a cache does at one call. Asked at a moment it gives a lease; or a ticket, with which a transfer begins to wait; or
-- it refuses what is wanted of a site. A ticket is granted a lease, or waits on. At a moment a lease comes back with the
-- facts of its response, or is abandoned, or a ticket is withdrawn. Or it takes a lease or a ticket for a stranger
pub data CacheCall (S : Type 0) : Type 0 where
  leases : Leasing S → ℕ → CacheCall S
  begins_wait : Ticketed → ℕ → CacheCall S
  refuses : ℕ → Want → ℕ → Refusal → CacheCall S
  grants : Leasing S → CacheCall S
  keeps_waiting : Ticketed → CacheCall S
  gives_back : Leasing S → Facts → ℕ → CacheCall S
  abandons : Leasing S → ℕ → CacheCall S
  withdraws : Ticketed → ℕ → CacheCall S
  finds_strange_lease : Leasing S → CacheCall S
  finds_strange_ticket : Ticketed → CacheCall S

-- all this was done by a cache, from the one time to the other, the newest first
abbrev pub AllDone : {C S : Type 0} → (C → C → CacheCall S → Type 0) → C → C → List (CacheCall S) → Type 0
AllDone did old new [] = new ≡ old
AllDone {C} did old new (call ∷ earlier) = (middle : C) × AllDone did old middle earlier × did middle new call

-- what was done where an acquire at that moment gives that
abbrev pub GivesBy : {S : Type 0} → (CacheCall S → Type 0) → ℕ → Acquired S → Type 0
GivesBy did now (Lease lease) = did (CacheCall.leases lease now)
GivesBy did now (Wait ticket) = did (CacheCall.begins_wait ticket now)

-- what was done where a claim gives that
abbrev pub ClaimsBy : {S : Type 0} → (CacheCall S → Type 0) → Claimed S → Type 0
ClaimsBy did (Granted lease) = did (CacheCall.grants lease)
ClaimsBy did (Still ticket) = did (CacheCall.keeps_waiting ticket)

-- a lease was abandoned at that moment, or taken for a stranger; a ticket was withdrawn, or taken for one
abbrev pub DropsBy : {S : Type 0} → (CacheCall S → Type 0) → Leasing S → ℕ → Type 0
DropsBy did lease now = did (CacheCall.abandons lease now) ⊎ did (CacheCall.finds_strange_lease lease)

abbrev pub WithdrawsBy : {S : Type 0} → (CacheCall S → Type 0) → Ticketed → ℕ → Type 0
WithdrawsBy did ticket now = did (CacheCall.withdraws ticket now) ⊎ did (CacheCall.finds_strange_ticket ticket)
