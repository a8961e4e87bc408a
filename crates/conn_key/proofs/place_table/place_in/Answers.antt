use Rattle.std.proofs.Common.{sym, ◌∙◌}
use Rattle.std.specs.Prelude.{bytes_eq, string_bytes}
use Rattle.conn_key.proofs.Positions.{position-map}
use Rattle.conn_key.proofs.place_table.place_in.Goals as goal

pub returns-clause-place : goal.returns-clause-place
returns-clause-place c = c.get_index_of.ensures.index ∙ sym (position-map (bytes_eq c.args.key.now) string_bytes c.args.hosts.now.keys)
