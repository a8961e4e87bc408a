-- The steps with a wire promise what they leave whatever the dial is: here it is read at the dial as it stands.
use Rattle.exchange.proofs.transfer.advance.Goals as goal

pub returns-in-Sending-clause-leaves : goal.returns-in-Sending-clause-leaves
returns-in-Sending-clause-leaves g c = c.send.ensures.leaves (g.D.Dial.shown c.args.dial.now).source_name

pub returns-in-Reading-clause-leaves : goal.returns-in-Reading-clause-leaves
returns-in-Reading-clause-leaves g c = c.read.ensures.leaves (g.D.Dial.shown c.args.dial.now).source_name
