use Rattle.std.proofs.Common.{◌≡◌}
use Rattle.cache.specs.PoolCalls.{home_of}
use Rattle.crawl.proofs.host_cache.PoolHostCache.cut.Given as goal

abbrev pub invariant-loop-place : goal.invariant-loop-place
invariant-loop-place g l = home_of l.self ≡ home_of l.fn.self
