-- What the slots of a pool hold is what the pool's logs show.
use Rattle.std.specs.Prelude.{◌≡◌, ℕ, List, Option, Some, None, IfSome}
use Rattle.bundle.specs.declared.answers.Acquired.{Acquired}
use Rattle.bundle.specs.declared.answers.Acquired.TheVariants.{Lease, Wait}
use Rattle.bundle.specs.Lease.{HostShown, lease_number, ticket_want}
use Rattle.cache.specs.Pools.{PoolShown, host_at, IsMadeHere, IsTicketHere}
use Rattle.held_pool.specs.declared.slot_place.Place.{Place}
use Rattle.held_pool.specs.Slots.{place_at}

-- whose lease or ticket it is: the site, and the transfer
abbrev pub holder_of : {S : Type 0} → Acquired S → ℕ × ℕ
holder_of (Lease lease) = (lease.site, lease.start.want.transfer)
holder_of (Wait ticket) = (ticket.site, ticket.wait.want.transfer)

-- it was made by the pool, whose log shows that its transfer has it
abbrev pub IsDue : {S : Type 0} → PoolShown S → Acquired S → Type 0
IsDue pool (Lease lease) = IsMadeHere pool lease × (lease_number (host_at pool lease.site) lease.start.want.transfer ≡ Some lease.start.number)
IsDue pool (Wait ticket) = IsTicketHere pool ticket × (ticket_want (host_at pool ticket.site) ticket.wait.want.transfer ≡ Some ticket.wait.want)

-- a transfer has neither a lease nor a ticket at a host
abbrev pub HasNothing : {S : Type 0} → HostShown S → ℕ → Type 0
HasNothing host transfer = (lease_number host transfer ≡ None) × (ticket_want host transfer ≡ None)

-- what a place holds
abbrev pub held_at : {S : Type 0} → List (Place (Acquired S)) → ℕ → Option (Acquired S)
held_at places index = (place_at places index).held

-- all that the places hold is due, and no two of them hold what one transfer has at one site
pub record AreDue {S : Type 0} (pool : PoolShown S) (places : List (Place (Acquired S))) : Type 0 where
  pub each : (index : ℕ) → IfSome (held_at places index) (IsDue pool)
  pub apart : (one other : ℕ) (x y : Acquired S) → held_at places one ≡ Some x → held_at places other ≡ Some y → holder_of x ≡ holder_of y → one ≡ other
