-- What its wire answers is where the exchange goes on.
use Rattle.exchange.specs.Worlds.{world_of}
use Rattle.exchange.specs.Wires.Happening.{fails_to_write}
use Rattle.exchange.proofs.Sending.{sends_more, sends_all, sends_later, sends_in_vain}
use Rattle.exchange.proofs.transferring.send.Goals as goal

pub returns-then-sent-text-clause-story : goal.returns-then-sent-text-clause-story
returns-then-sent-text-clause-story g c = sends_more g.C.Cache.did (world_of g.W.Wire.untouched g.W.Wire.happened (g.K.Clock.tells c.args.clock.now)) c.args.parts.now c.args.cache.now c.args.lease c.write_to.new.lease c.args.sent c.as_bytes-text.result.now c.in-Took.taken c.as_bytes-text.ensures.value c.in-Took.ensures

pub returns-else-sent-text-clause-story : goal.returns-else-sent-text-clause-story
returns-else-sent-text-clause-story g c = sends_all g.C.Cache.did (world_of g.W.Wire.untouched g.W.Wire.happened (g.K.Clock.tells c.args.clock.now)) c.args.parts.now c.args.cache.now c.args.lease c.write_to.new.lease c.args.sent c.as_bytes-text.result.now c.in-Took.taken c.as_bytes-text.ensures.value c.if-sent-text.false c.in-Took.ensures

pub returns-in-NotYet-clause-story : goal.returns-in-NotYet-clause-story
returns-in-NotYet-clause-story g c = rw c.wait_for.ensures.same_lease (sends_later g.C.Cache.did (world_of g.W.Wire.untouched g.W.Wire.happened (g.K.Clock.tells c.args.clock.now)) c.args.parts.now c.args.cache.now c.args.lease c.write_to.new.lease c.args.sent c.as_bytes-text.result.now c.in-NotYet.ensures)

pub returns-in-Fault-clause-story : goal.returns-in-Fault-clause-story
returns-in-Fault-clause-story g c = λ first stands. c.fail.ensures.story first (sends_in_vain g.C.Cache.did (world_of g.W.Wire.untouched g.W.Wire.happened (g.K.Clock.tells c.args.clock.now)) c.args.parts.now c.args.cache.now c.args.lease c.write_to.new.lease c.args.sent c.as_bytes-text.result.now c.requires.short c.in-Fault.ensures first stands)

pub returns-in-Fault-clause-steps : goal.returns-in-Fault-clause-steps
returns-in-Fault-clause-steps g c = (c.write_to.new.lease, (fails_to_write, tt, c.in-Fault.ensures), c.fail.ensures.left)
