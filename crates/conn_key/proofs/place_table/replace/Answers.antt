use Rattle.conn_key.specs.Hosts.{keys_in}
use Rattle.conn_key.proofs.KeysInSets.{removed_by}
use Rattle.conn_key.proofs.place_table.replace.Goals as goal

pub returns-clause-ok : goal.returns-clause-ok
returns-clause-ok c =
    removed_by (keys_in c.args.hosts.now) c.append.new.hosts.keys c.swap_remove_index.new.self.keys c.args.key.now c.args.place c.swap_remove_index.result
    c.in_ok-append.ensures.ok c.requires.there c.swap_remove_index.ensures.key c.swap_remove_index.ensures.keys
