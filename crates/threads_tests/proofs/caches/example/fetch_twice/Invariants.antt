use Rattle.shared_cache.specs.Passes.{IsPassOf}
use Rattle.threads_tests.proofs.caches.example.fetch_twice.Given as goal

abbrev pub invariant-loop-transfer : goal.invariant-loop-transfer
invariant-loop-transfer g l = IsPassOf g.N.Names.names l.pass
