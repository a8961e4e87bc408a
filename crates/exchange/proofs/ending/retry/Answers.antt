-- An abandoned lease is one that it was tried on.
use Rattle.exchange.specs.Worlds.{world_of}
use Rattle.std.proofs.Common.{inl, inr}
use Rattle.exchange.proofs.Steps.{spends_drop}
use Rattle.exchange.proofs.Retrying.{asks_again, loses_lease}
use Rattle.exchange.proofs.ending.retry.Goals as goal

pub returns-in-Ok-clause-story : goal.returns-in-Ok-clause-story
returns-in-Ok-clause-story g c = asks_again g.C.Cache.did (world_of g.W.Wire.untouched g.W.Wire.happened (g.K.Clock.tells c.args._clock.now)) c.args.parts.now c.args.cache.now c.abandon.new.self c.args.lease c.args.now c.requires.told c.clear.new.self c.clear.ensures c.in-Ok.ensures.ok c.requires.first c.requires.reused

pub returns-in-Err-clause-story : goal.returns-in-Err-clause-story
returns-in-Err-clause-story g c = loses_lease g.C.Cache.did (world_of g.W.Wire.untouched g.W.Wire.happened (g.K.Clock.tells c.args._clock.now)) c.args.parts.now c.args.cache.now c.abandon.new.self c.args.lease c.args.now c.requires.told c.in-Err.ensures.strange c.requires.first c.requires.reused

pub returns-in-Ok-clause-left : goal.returns-in-Ok-clause-left
returns-in-Ok-clause-left g c = spends_drop (g.C.Cache.did c.args.cache.now c.abandon.new.self) c.args.lease c.args.now (inl c.in-Ok.ensures.ok)

pub returns-in-Err-clause-left : goal.returns-in-Err-clause-left
returns-in-Err-clause-left g c = spends_drop (g.C.Cache.did c.args.cache.now c.abandon.new.self) c.args.lease c.args.now (inr c.in-Err.ensures.strange)
