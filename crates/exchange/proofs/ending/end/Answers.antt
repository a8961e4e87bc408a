-- A wire that ended before any byte came is tried again, and every other lease is settled.
use Rattle.std.proofs.Common.{sym, ◌∙◌}
use Rattle.exchange.specs.Worlds.{world_of}
use Rattle.exchange.proofs.Retrying.{can_settle}
use Rattle.exchange.proofs.ending.end.Goals as goal

pub returns-clause-story : goal.returns-clause-story
returns-clause-story g c first from =
    c.settle.ensures.story first (can_settle g.C.Cache.did (world_of g.W.Wire.untouched g.W.Wire.happened (g.K.Clock.tells c.args.clock.now)) c.args.parts.now first c.args.cache.now c.args.lease c.end.new.self c.end.ensures (sym c.may_retry.ensures ∙ c.if-may_retry.false) from)
