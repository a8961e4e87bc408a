-- Leases and tickets of a pool stay its own.
use Rattle.std.proofs.Common.{◌≡◌, List, sym, subst}
use Rattle.std.specs.List.{All}
use Rattle.bundle.specs.Seats.{Tables}
use Rattle.cache_trait.specs.Homes.{IsMadeBy}
use Rattle.bundle.specs.Lease.{Leasing, Ticketed}
use Rattle.cache.specs.Pools.{PoolShown}
use Rattle.cache.specs.PoolCalls.{home_of}

module _ {S : Type 0} where
  -- what is kept stays made by the pool if no table changes
  pub kept_at : (old new : PoolShown S) (leases : List (Leasing S)) (tickets : List Ticketed) → home_of new ≡ home_of old
      → All (λ lease. IsMadeBy (home_of old) lease.site lease.tables) leases → All (λ ticket. IsMadeBy (home_of old) ticket.site ticket.tables) tickets
      → record { leases : All (λ lease. IsMadeBy (home_of new) lease.site lease.tables) leases; tickets : All (λ ticket. IsMadeBy (home_of new) ticket.site ticket.tables) tickets }
  kept_at old new leases tickets same held waits = record {
    leases = subst (λ (home : List Tables). All (λ (lease : Leasing S). IsMadeBy home lease.site lease.tables) leases) (sym same) held;
    tickets = subst (λ (home : List Tables). All (λ (ticket : Ticketed). IsMadeBy home ticket.site ticket.tables) tickets) (sym same) waits;
  }
