-- What its wire answers is where the exchange goes on.
use Rattle.std.proofs.Common.{◌≡◌, length, rules}
use Rattle.exchange.specs.Worlds.{world_of}
use Rattle.exchange.specs.Wires.Happening.{ends, fails_to_read}
use Rattle.exchange.proofs.Steps.{read_once}
use Rattle.exchange.proofs.Receiving.{reads_bytes, reads_later, reads_end, reads_in_vain}
use Rattle.exchange.proofs.transferring.read.Goals as goal

pub returns-in-Bytes-clause-story : goal.returns-in-Bytes-clause-story
returns-in-Bytes-clause-story g c first stands =
    let long : length c.read_from.new.buffer ≡ c.args.parts.now.buffer.len = search rules in
    c.feed.ensures.story first (reads_bytes g.C.Cache.did (world_of g.W.Wire.untouched g.W.Wire.happened (g.K.Clock.tells c.args.clock.now)) c.args.parts.now c.args.cache.now c.args.lease c.read_from.new.lease c.read_from.new.buffer c.in-Bytes.count long c.in-Bytes.ensures first stands)

pub returns-in-NotYet-clause-story : goal.returns-in-NotYet-clause-story
returns-in-NotYet-clause-story g c = rw c.wait_for.ensures.same_lease (reads_later g.C.Cache.did (world_of g.W.Wire.untouched g.W.Wire.happened (g.K.Clock.tells c.args.clock.now)) c.args.parts.now c.args.cache.now c.args.lease c.read_from.new.lease c.read_from.new.buffer c.in-NotYet.ensures)

pub returns-in-End-clause-story : goal.returns-in-End-clause-story
returns-in-End-clause-story g c first stands = c.end.ensures.story first (reads_end g.C.Cache.did (world_of g.W.Wire.untouched g.W.Wire.happened (g.K.Clock.tells c.args.clock.now)) c.args.parts.now c.args.cache.now c.args.lease c.read_from.new.lease c.read_from.new.buffer c.in-End.ensures first stands)

pub returns-in-Fault-clause-story : goal.returns-in-Fault-clause-story
returns-in-Fault-clause-story g c first stands = c.fail.ensures.story first (reads_in_vain g.C.Cache.did (world_of g.W.Wire.untouched g.W.Wire.happened (g.K.Clock.tells c.args.clock.now)) c.args.parts.now c.args.cache.now c.args.lease c.read_from.new.lease c.read_from.new.buffer c.in-Fault.ensures first stands)

pub returns-in-Bytes-clause-steps : goal.returns-in-Bytes-clause-steps
returns-in-Bytes-clause-steps g c =
    let world = world_of g.W.Wire.untouched g.W.Wire.happened (g.K.Clock.tells c.args.clock.now) in
    (c.read_from.new.lease, read_once world c.args.lease c.read_from.new.lease c.read_from.new.buffer c.in-Bytes.count c.in-Bytes.ensures, c.feed.ensures.left)

pub returns-in-End-clause-steps : goal.returns-in-End-clause-steps
returns-in-End-clause-steps g c = (c.read_from.new.lease, (ends, tt, c.in-End.ensures), c.end.ensures.left)

pub returns-in-Fault-clause-steps : goal.returns-in-Fault-clause-steps
returns-in-Fault-clause-steps g c = (c.read_from.new.lease, (fails_to_read, tt, c.in-Fault.ensures), c.fail.ensures.left)
