use Rattle.std.proofs.Common.{rules}
use Rattle.socket.proofs.addresses.Addresses.add.Goals as goal

pub returns-clause-added : goal.returns-clause-added
returns-clause-added c = record { next = c.in_ok-addresses.addresses; added = search rules; has = search rules }
