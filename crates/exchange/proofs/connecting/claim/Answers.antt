-- What the claim gives is where the transfer goes on.
use Rattle.std.proofs.Common.{rules, ◌≡◌}
use Rattle.cache_trait.specs.CacheCalls.CacheCall.{grants, keeps_waiting}
use Rattle.cache_trait.specs.Homes.{IsLeaseFor}
use Rattle.exchange.specs.Worlds.{world_of}
use Rattle.exchange.proofs.Steps.{claims_on}
use Rattle.exchange.proofs.FirstSteps.{waits_leases, waits_still, waits_strange}
use Rattle.exchange.proofs.connecting.claim.Goals as goal

pub returns-in-Ok-Lease-clause-story : goal.returns-in-Ok-Lease-clause-story
returns-in-Ok-Lease-clause-story g c =
    let ticket = c.args.ticket in
    let now = c.claim.new.self in
    let lease = c.in-Ok-Lease.lease in
    let did : g.C.Cache.did c.args.cache.now now (grants lease) = search rules in
    let given : IsLeaseFor (g.C.Cache.home now) ticket.site ticket.wait.want lease = search rules in
    waits_leases g.C.Cache.did (world_of g.W.Wire.untouched g.W.Wire.happened (g.K.Clock.tells c.args._clock.now)) c.args.parts.now c.args.cache.now now ticket lease c.begin.result did given.site_is given.want_is given.wire c.begin.ensures.begins

pub returns-in-Ok-Still-clause-story : goal.returns-in-Ok-Still-clause-story
returns-in-Ok-Still-clause-story g c =
    let now = c.claim.new.self in
    let same = c.in-Ok-Still.ticket in
    let did : g.C.Cache.did c.args.cache.now now (keeps_waiting same) = search rules in
    let is : same ≡ c.args.ticket = search rules in
    waits_still g.C.Cache.did (world_of g.W.Wire.untouched g.W.Wire.happened (g.K.Clock.tells c.args._clock.now)) c.args.parts.now c.args.cache.now now c.args.ticket same did is

pub returns-in-Err-clause-story : goal.returns-in-Err-clause-story
returns-in-Err-clause-story g c = waits_strange g.C.Cache.did (world_of g.W.Wire.untouched g.W.Wire.happened (g.K.Clock.tells c.args._clock.now)) c.args.parts.now c.args.cache.now c.claim.new.self c.args.ticket c.in-Err.ensures.strange

pub returns-in-Ok-Lease-clause-steps : goal.returns-in-Ok-Lease-clause-steps
returns-in-Ok-Lease-clause-steps g c =
    let now = c.claim.new.self in
    let lease = c.in-Ok-Lease.lease in
    let did : g.C.Cache.did c.args.cache.now now (grants lease) = search rules in
    claims_on (world_of g.W.Wire.untouched g.W.Wire.happened (g.K.Clock.tells c.args._clock.now)) (g.C.Cache.did c.args.cache.now now) lease c.args.ticket did c.begin.result c.begin.ensures.begins
