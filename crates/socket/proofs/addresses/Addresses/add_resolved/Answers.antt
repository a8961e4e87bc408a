use Rattle.std.proofs.Common.{refl}
use Rattle.socket.proofs.addresses.Addresses.add_resolved.Goals as goal

pub returns-clause-added : goal.returns-clause-added
returns-clause-added c = record { next = c.args.addresses; added = c.in_ok-push.ensures.added; has = refl }
