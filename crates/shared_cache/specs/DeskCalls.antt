-- What a desk does at each call of a cache: what its pass is told, and what went back. Other threads use the cache too, so
-- that nothing of it can be known from one time to another.
use Rattle.std.specs.Prelude.{◌≡◌, ℕ, ◌<◌, ◌≤◌, ◌⊎◌, length, Option, Some}
use Rattle.conn_log.specs.declared.entry.Cause.TheVariants.{Dropped}
use Rattle.conn_log.specs.declared.entry.Event.TheVariants.{Returned, Closed}
use Rattle.budget.specs.declared.refusal.Refusal.{Refusal}
use Rattle.budget.specs.declared.refusal.Refusal.TheVariants.{BadSite}
use Rattle.host_state.specs.Calls.{start_entry, wait_entry}
use Rattle.bundle.specs.Passes.{Accounts, tells, refusal_did}
use Rattle.bundle.specs.declared.did.Did.{Did}
use Rattle.bundle.specs.declared.did.Did.TheVariants.{Wrote, Claimed, Still, Stranger}
use Rattle.cache_trait.specs.CacheCalls.{CacheCall}
use Rattle.cache_trait.specs.CacheCalls.CacheCall.{leases, begins_wait, refuses, grants, keeps_waiting, gives_back, abandons, withdraws, finds_strange_lease, finds_strange_ticket}
use Rattle.shared_cache.specs.Calls.{IsAgainstAcquire}
use Rattle.shared_cache.specs.Names.{CacheNames}
use Rattle.shared_cache.specs.Passes.{SpendsAs, WithdrawsAs}
use Rattle.shared_cache.specs.Desks.{DeskShown}

-- there is such a site, and the pass is told so there
abbrev pub TellsAt : CacheNames → ℕ → Did → Accounts → Accounts → Type 0
TellsAt names site did old new = (site < length names.hosts) × (new ≡ tells site (Some did) old)

-- why a desk refuses what is wanted of a site: there is none; or else that of the host, of which the pass is told
abbrev pub IsRefusalAt : CacheNames → ℕ → Refusal → Type 0
IsRefusalAt names site reason = ((length names.hosts ≤ site) × (reason ≡ BadSite)) ⊎ ((site < length names.hosts) × IsAgainstAcquire reason)

-- From the one time to the other a pass was told this: the start of the lease that was given, or the wait of the ticket,
-- of a moment that is not before the one handed in; why an acquire was refused; that a ticket has its lease, or waits on;
-- the return of a lease with the facts handed in; its closing, as dropped; the end of a wait; or that a ticket is a
-- stranger. No lease is ever one.
abbrev pub ToldOf : {S : Type 0} → CacheNames → Accounts → Accounts → CacheCall S → Type 0
ToldOf names old new (leases lease now) = (now ≤ lease.start.moment) × TellsAt names lease.site (Wrote (start_entry lease.start)) old new
ToldOf names old new (begins_wait ticket now) = (now ≤ ticket.wait.moment) × TellsAt names ticket.site (Wrote (wait_entry ticket.wait)) old new
ToldOf names old new (refuses site want now reason) = IsRefusalAt names site reason × (new ≡ tells site (refusal_did want.transfer reason) old)
ToldOf names old new (grants lease) = TellsAt names lease.site (Claimed lease.start.want.transfer) old new
ToldOf names old new (keeps_waiting ticket) = TellsAt names ticket.site (Still ticket.wait.want.transfer) old new
ToldOf names old new (gives_back lease facts now) = SpendsAs lease.site now (Returned lease.start.number facts) old new
ToldOf names old new (abandons lease now) = SpendsAs lease.site now (Closed lease.start.number Dropped) old new
ToldOf names old new (withdraws ticket now) = (ticket.site < length names.hosts) × WithdrawsAs ticket.site now ticket.wait.want.transfer old new
ToldOf names old new (finds_strange_lease lease) = ⊥
ToldOf names old new (finds_strange_ticket ticket) = TellsAt names ticket.site (Stranger ticket.wait.want.transfer) old new

-- the stream of the connection that went back last, once this was done too
abbrev pub wire_after : {S : Type 0} → CacheCall S → Option S → Option S
wire_after (gives_back lease facts now) wire = lease.stream
wire_after _ wire = wire

-- from the one time to the other a desk did this, and nothing else: its pass was told so, and what went back is seen
pub record DidAtDesk {S : Type 0} (names : CacheNames) (old new : DeskShown S) (call : CacheCall S) : Type 0 where
  pub told : ToldOf names old.pass new.pass call
  pub wire : new.wire ≡ wire_after call old.wire
