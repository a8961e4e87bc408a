use Rattle.shared_cache.proofs.NewPasses.{IsEnrolledTo}
use Rattle.shared_cache.proofs.cache.SharedCache.pass.Given as goal

abbrev pub invariant-loop-site : goal.invariant-loop-site
invariant-loop-site g l = IsEnrolledTo g.N.Names.names l.site l.pass
