use Rattle.std.proofs.Common.{string_bytes}
use Rattle.std.proofs.lemmas.Map.Text.{hash_map_updates_text}
use Rattle.conn_key.proofs.sites.note_host.Goals as goal

pub returns-clause-ok : goal.returns-clause-ok
returns-clause-ok c =
    hash_map_updates_text (string_bytes c.args.host) c.args.hosts.now c.insert.new.self _
    c.in_ok-insert.ensures.updates
