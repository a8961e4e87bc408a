-- What its reader was fed is what its wire received.
use Rattle.std.proofs.Common.{rules}
use Rattle.exchange.specs.Worlds.{world_of}
use Rattle.exchange.proofs.Steps.{spends_back}
use Rattle.exchange.proofs.Receiving.{Feeds, reads_on, can_settle_whole, ends_faulty}
use Rattle.exchange.proofs.transferring.feed.Goals as goal

pub returns-in-Ok-More-clause-story : goal.returns-in-Ok-More-clause-story
returns-in-Ok-More-clause-story g c =
    let feeds : Feeds c.args.parts.now c.args.count c.feed.new.self = record { bytes = search rules; same = c.feed.ensures.same } in
    reads_on g.C.Cache.did (world_of g.W.Wire.untouched g.W.Wire.happened (g.K.Clock.tells c.args.clock.now)) c.args.parts.now c.args.cache.now c.args.lease c.args.count c.feed.new.self feeds c.in-Ok-More.ensures.faultless.0 (rw c.in-Ok-More.field-0-is at c.in-Ok-More.ensures.told)

pub returns-in-Ok-Whole-clause-story : goal.returns-in-Ok-Whole-clause-story
returns-in-Ok-Whole-clause-story g c first from =
    let feeds : Feeds c.args.parts.now c.args.count c.feed.new.self = record { bytes = search rules; same = c.feed.ensures.same } in
    let told = c.in-Ok-Whole.ensures.told in
    c.settle.ensures.story first (can_settle_whole g.C.Cache.did (world_of g.W.Wire.untouched g.W.Wire.happened (g.K.Clock.tells c.args.clock.now)) c.args.parts.now c.args.cache.now c.args.lease c.args.count c.feed.new.self feeds c.in-Ok-Whole.ensures.faultless.0 (rw c.in-Ok-Whole.field-0-is at told) first from)

pub returns-in-Err-clause-story : goal.returns-in-Err-clause-story
returns-in-Err-clause-story g c =
    let feeds : Feeds c.args.parts.now c.args.count c.feed.new.self = record { bytes = search rules; same = c.feed.ensures.same } in
    ends_faulty g.C.Cache.did (world_of g.W.Wire.untouched g.W.Wire.happened (g.K.Clock.tells c.args.clock.now)) c.args.parts.now c.args.cache.now c.args.lease c.args.count c.feed.new.self feeds c.give_back-known.new.cache c.args.now c.give_back-known.result c.facts.result c.in-Err.field-0 c.requires.told c.give_back-known.ensures.did c.in-Err.ensures.fault c.facts.ensures.after_fault

pub returns-in-Err-clause-left : goal.returns-in-Err-clause-left
returns-in-Err-clause-left g c = spends_back (g.C.Cache.did c.args.cache.now c.give_back-known.new.cache) c.args.lease c.args.now c.facts.result c.give_back-known.result c.give_back-known.ensures.did
