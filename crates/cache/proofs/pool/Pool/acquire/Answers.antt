use Rattle.std.proofs.Common.{◌≡◌, ap, subst, ◌∙◌}
use Rattle.cache_trait.specs.Homes.{IsLeaseFor, IsTicketFor}
use Rattle.cache_trait.specs.CacheCalls.CacheCall.{leases, begins_wait}
use Rattle.cache.specs.Calls.{acquired}
use Rattle.cache.specs.Pools.{all_hosts}
use Rattle.cache.specs.PoolCalls.{home_of, AcquiresBy, DidToPool}
use Rattle.cache.proofs.PoolCalls.{told_lease, told_ticket}
use Rattle.cache.proofs.Refusals.{still_none, still_owed, still_refused}
use Rattle.cache.proofs.pool.Pool.acquire.Goals as goal

lease_tells : (g : _) (c : goal.After-serve g)
    → IsLeaseFor (home_of c.serve.new.self) c.args.site c.args.want c.in-Ok-Lease.lease × DidToPool c.args.self.now c.serve.new.self (leases c.in-Ok-Lease.lease c.args.now) × (home_of c.serve.new.self ≡ home_of c.args.self.now)
lease_tells g c =
    let start = c.self.inside.hosts in
    let end = acquired start.limits c.args.site c.args.want c.args.now (all_hosts start) in
    told_lease start c.acquire.new.self c.serve.new.self c.args.self.now c.self.view_is c.args.now c.serve.ensures.done c.args.site c.args.want c.in-Ok-Lease.lease
    (subst (λ got. AcquiresBy c.args.site c.args.want end.all end.reply start c.acquire.new.self got) c.in-Ok-Lease.field-0-is c.in-Ok-Lease.ensures.done)

pub returns-in-Ok-Lease-clause-given : goal.returns-in-Ok-Lease-clause-given
returns-in-Ok-Lease-clause-given g c = (lease_tells g c).0

pub returns-in-Ok-Lease-clause-done : goal.returns-in-Ok-Lease-clause-done
returns-in-Ok-Lease-clause-done g c = (lease_tells g c).1

pub returns-in-Ok-Lease-clause-stays : goal.returns-in-Ok-Lease-clause-stays
returns-in-Ok-Lease-clause-stays g c = (lease_tells g c).2

ticket_tells : (g : _) (c : goal.After-serve-in-Ok-Wait g)
    → IsTicketFor (home_of c.serve-in-Ok-Wait.new.self) c.args.site c.args.want c.in-Ok-Wait.ticket × DidToPool c.args.self.now c.serve-in-Ok-Wait.new.self (begins_wait c.in-Ok-Wait.ticket c.args.now) × (home_of c.serve-in-Ok-Wait.new.self ≡ home_of c.args.self.now)
ticket_tells g c =
    let start = c.self.inside.hosts in
    let end = acquired start.limits c.args.site c.args.want c.args.now (all_hosts start) in
    told_ticket start c.acquire.new.self c.serve-in-Ok-Wait.new.self c.args.self.now c.self.view_is c.args.now c.serve-in-Ok-Wait.ensures.done c.args.site c.args.want c.in-Ok-Wait.ticket
    (subst (λ got. AcquiresBy c.args.site c.args.want end.all end.reply start c.acquire.new.self got) c.in-Ok-Wait.field-0-is c.in-Ok-Wait.ensures.done)

pub returns-in-Ok-Wait-clause-given : goal.returns-in-Ok-Wait-clause-given
returns-in-Ok-Wait-clause-given g c = (ticket_tells g c).0

pub returns-in-Ok-Wait-clause-done : goal.returns-in-Ok-Wait-clause-done
returns-in-Ok-Wait-clause-done g c = (ticket_tells g c).1

pub returns-in-Ok-Wait-clause-stays : goal.returns-in-Ok-Wait-clause-stays
returns-in-Ok-Wait-clause-stays g c = (ticket_tells g c).2

pub returns-in-Ok-Lease-clause-due : goal.returns-in-Ok-Lease-clause-due
returns-in-Ok-Lease-clause-due g c =
    let there = rw c.len.ensures.count at c.if-site-len.false in
    still_none c.self.inside.hosts c.args.self.now c.self.view_is c.args.site c.args.want there (c.self.invariant.none_booked c.args.site there) c.in-Ok-Lease.field-0 _ c.in-Ok-Lease.ensures.due

pub returns-in-Ok-Wait-clause-due : goal.returns-in-Ok-Wait-clause-due
returns-in-Ok-Wait-clause-due g c =
    let there = rw c.len.ensures.count at c.if-site-len.false in
    still_none c.self.inside.hosts c.args.self.now c.self.view_is c.args.site c.args.want there (c.self.invariant.none_booked c.args.site there) c.in-Ok-Wait.field-0 _ c.in-Ok-Wait.ensures.due

pub returns-in-Err-clause-refused : goal.returns-in-Err-clause-refused
returns-in-Err-clause-refused g c =
    let there = rw c.len.ensures.count at c.if-site-len.false in
    still_refused c.self.inside.hosts c.args.self.now c.self.view_is c.args.site c.args.want there (c.self.invariant.none_booked c.args.site there) c.acquire.new.self c.in-Err.refusal c.in-Err.ensures.refused

pub returns-in-Err-clause-due : goal.returns-in-Err-clause-due
returns-in-Err-clause-due g c =
    let there = rw c.len.ensures.count at c.if-site-len.false in
    still_owed c.self.inside.hosts c.args.self.now c.self.view_is c.args.site c.args.want there (c.self.invariant.none_booked c.args.site there) _ c.in-Err.ensures.due

pub returns-in-Err-clause-stays : goal.returns-in-Err-clause-stays
returns-in-Err-clause-stays g c = ap (λ p. home_of p) (c.in-Err.ensures.refused.0 ∙ c.self.view_is)
