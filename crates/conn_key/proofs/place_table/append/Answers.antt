use Rattle.std.proofs.Common.{map, ap, ◌∙◌}
use Rattle.std.specs.Prelude.{string_bytes}
use Rattle.conn_key.proofs.KeysInSets.{new_goes_last}
use Rattle.conn_key.proofs.place_table.append.Goals as goal

pub returns-clause-ok : goal.returns-clause-ok
returns-clause-ok c =
    ap (map string_bytes) c.in_ok-insert_full.ensures.keys
    ∙ new_goes_last c.args.hosts.now.keys c.in_ok-host.host c.args.key.now c.in_ok-host.ensures.ok c.requires
