use Rattle.std.proofs.Common.{◌∙◌, ap}
use Rattle.std.specs.Map.{keys_of}
use Rattle.std.specs.BTreeMap.{keys}
use Rattle.script_engine.specs.Meaning.{with_ticket}
use Rattle.script_engine.proofs.Tickets.{keys-inserted}
use Rattle.script_engine.proofs.site_leases.keep_ticket.Goals as goal

pub returns-in-Ok-None-clause-transfers : goal.returns-in-Ok-None-clause-transfers
returns-in-Ok-None-clause-transfers c =
    ap keys_of c.in-Ok-None.ensures.entries
    ∙ keys-inserted c.args.tickets.now.entries c.transfer-transfer.result c.args.ticket
    ∙ ap (λ t. with_ticket t (keys c.args.tickets.now)) c.transfer-transfer.ensures
