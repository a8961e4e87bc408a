-- A lease whose connection cannot be opened is given up.
use Rattle.exchange.specs.Worlds.{world_of}
use Rattle.exchange.proofs.FirstSteps.{dials_in_vain}
use Rattle.exchange.proofs.connecting.dial_up.Goals as goal

pub returns-in-Fault-clause-story : goal.returns-in-Fault-clause-story
returns-in-Fault-clause-story g c = dials_in_vain g.C.Cache.did (world_of g.W.Wire.untouched g.W.Wire.happened (g.K.Clock.tells c.args._clock.now)) c.args._parts.now c.args.cache.now c.abandon.new.cache c.args.lease c.args.now c.requires.told c.abandon.ensures.did
