-- Each pass is the cache's.
use Rattle.std.proofs.Common.{rules, ◌≡◌, ◌∷◌, ◌++◌, []}
use Rattle.threads_tests.proofs.Taken.{one_taken}
use Rattle.threads_tests.proofs.drivers.many.taken_from.Goals as goal

pub put_by-requires-clause-pass : goal.put_by-requires-clause-pass
put_by-requires-clause-pass g c =
    let popped : c.loop-last.workers.items ≡ c.pop.new.self.items ++ c.in-Some.last ∷ [] = search rules in
    (one_taken g.N.Names.names c.loop-last.workers.items c.pop.new.self.items c.in-Some.last popped c.loop-last.invariant.left).1

pub loop-last-preserved : goal.loop-last-preserved
loop-last-preserved g c =
    let popped : c.loop-last.workers.items ≡ c.pop.new.self.items ++ c.in-Some.last ∷ [] = search rules in
    record {
      passes = search rules;
      left = (one_taken g.N.Names.names c.loop-last.workers.items c.pop.new.self.items c.in-Some.last popped c.loop-last.invariant.left).0;
    }
