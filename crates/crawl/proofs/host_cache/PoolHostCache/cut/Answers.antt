-- One log after another is cut.
use Rattle.std.proofs.Common.{◌∙◌}
use Rattle.crawl.proofs.host_cache.PoolHostCache.cut.Goals as goal

pub loop-place-preserved : goal.loop-place-preserved
loop-place-preserved g c = c.cut_if_long.ensures ∙ c.loop-place.invariant
