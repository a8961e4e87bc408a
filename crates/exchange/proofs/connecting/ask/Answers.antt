-- What the cache gives is where the transfer goes on.
use Rattle.std.proofs.Common.{rules}
use Rattle.cache_trait.specs.CacheCalls.CacheCall.{leases, begins_wait, refuses}
use Rattle.cache_trait.specs.Homes.{IsLeaseFor, IsTicketFor}
use Rattle.exchange.specs.Worlds.{world_of}
use Rattle.exchange.specs.Answers.{wanted}
use Rattle.exchange.proofs.Steps.{asks_on}
use Rattle.exchange.proofs.FirstSteps.{asks_leases, asks_waits, asks_refused}
use Rattle.exchange.proofs.connecting.ask.Goals as goal

pub returns-in-Ok-Lease-clause-story : goal.returns-in-Ok-Lease-clause-story
returns-in-Ok-Lease-clause-story g c =
    let p = c.args.parts.now in
    let now = c.acquire.new.self in
    let lease = c.in-Ok-Lease.lease in
    let did : g.C.Cache.did c.args.cache.now now (leases lease c.args.now) = search rules in
    let given : IsLeaseFor (g.C.Cache.home now) p.site (wanted p) lease = search rules in
    asks_leases g.C.Cache.did (world_of g.W.Wire.untouched g.W.Wire.happened (g.K.Clock.tells c.args._clock.now)) p c.args.cache.now now c.args.now c.requires.told lease c.begin.result did given.site_is given.want_is given.wire c.begin.ensures.begins

pub returns-in-Ok-Wait-clause-story : goal.returns-in-Ok-Wait-clause-story
returns-in-Ok-Wait-clause-story g c =
    let p = c.args.parts.now in
    let now = c.acquire.new.self in
    let ticket = c.in-Ok-Wait.ticket in
    let did : g.C.Cache.did c.args.cache.now now (begins_wait ticket c.args.now) = search rules in
    let given : IsTicketFor (g.C.Cache.home now) p.site (wanted p) ticket = search rules in
    asks_waits g.C.Cache.did (world_of g.W.Wire.untouched g.W.Wire.happened (g.K.Clock.tells c.args._clock.now)) p c.args.cache.now now c.args.now c.requires.told ticket did given.site_is given.want_is

pub returns-in-Err-clause-story : goal.returns-in-Err-clause-story
returns-in-Err-clause-story g c =
    let p = c.args.parts.now in
    let now = c.acquire.new.self in
    let did : g.C.Cache.did c.args.cache.now now (refuses p.site (wanted p) c.args.now c.in-Err.refusal) = search rules in
    asks_refused g.C.Cache.did (world_of g.W.Wire.untouched g.W.Wire.happened (g.K.Clock.tells c.args._clock.now)) p c.args.cache.now now c.args.now c.requires.told c.in-Err.refusal did

pub returns-in-Ok-Lease-clause-steps : goal.returns-in-Ok-Lease-clause-steps
returns-in-Ok-Lease-clause-steps g c =
    let now = c.acquire.new.self in
    let lease = c.in-Ok-Lease.lease in
    let did : g.C.Cache.did c.args.cache.now now (leases lease c.args.now) = search rules in
    asks_on (world_of g.W.Wire.untouched g.W.Wire.happened (g.K.Clock.tells c.args._clock.now)) (g.C.Cache.did c.args.cache.now now) lease c.args.now c.requires.told did c.begin.result c.begin.ensures.begins

pub returns-in-Ok-Wait-clause-steps : goal.returns-in-Ok-Wait-clause-steps
returns-in-Ok-Wait-clause-steps g c =
    let did : g.C.Cache.did c.args.cache.now c.acquire.new.self (begins_wait c.in-Ok-Wait.ticket c.args.now) = search rules in
    (c.args.now, c.requires.told, did)

pub returns-in-Err-clause-steps : goal.returns-in-Err-clause-steps
returns-in-Err-clause-steps g c =
    let p = c.args.parts.now in
    let did : g.C.Cache.did c.args.cache.now c.acquire.new.self (refuses p.site (wanted p) c.args.now c.in-Err.refusal) = search rules in
    (c.args.now, c.requires.told, (p.site, wanted p, did))
