use Rattle.std.proofs.Common.{ℕ, List}
use Rattle.shared_cache.proofs.PrunedHosts.{ArePrunedTo}
use Rattle.shared_cache.proofs.cache.SharedCache.prune.Given as goal

abbrev pub invariant-loop-site : goal.invariant-loop-site
invariant-loop-site g l = (closings : List ℕ) × ArePrunedTo g.N.Names.names l.now l.max_age l.max_life l.fn.pass l.site l.closed closings l.pass
