use Rattle.std.proofs.lemmas.List.Elements.{All-push, All-same}
use Rattle.shared_cache.specs.Passes.{IsPassOf}
use Rattle.thread_memory_tests.proofs.making.put_by.Goals as goal

pub returns : goal.returns
returns g c =
    let names = g.N.Names.names in
    All-same (IsPassOf names) c.push.new.list.items _ c.push.ensures
    (All-push (IsPassOf names) c.args.passes.now.items c.args.pass c.requires.passes c.requires.pass)
