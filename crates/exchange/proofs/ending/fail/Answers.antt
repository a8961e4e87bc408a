-- A wire that failed before any byte came is tried again, and every other lease is abandoned.
use Rattle.std.proofs.Common.{sym, ◌∙◌}
use Rattle.exchange.specs.Worlds.{world_of}
use Rattle.exchange.proofs.Steps.{spends_drop}
use Rattle.exchange.proofs.Retrying.{fails}
use Rattle.exchange.proofs.ending.fail.Goals as goal

pub returns-clause-story : goal.returns-clause-story
returns-clause-story g c = fails g.C.Cache.did (world_of g.W.Wire.untouched g.W.Wire.happened (g.K.Clock.tells c.args.clock.now)) c.args.parts.now c.args.cache.now c.abandon.new.cache c.args.lease c.args.now c.requires.told c.args.fault c.requires.wire_fault c.abandon.ensures.did (sym c.may_retry.ensures ∙ c.if-may_retry.false)

pub returns-clause-left : goal.returns-clause-left
returns-clause-left g c = spends_drop (g.C.Cache.did c.args.cache.now c.abandon.new.cache) c.args.lease c.args.now c.abandon.ensures.did
