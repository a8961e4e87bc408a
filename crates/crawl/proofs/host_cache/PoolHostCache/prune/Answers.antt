-- A pool that is pruned keeps its tables.
use Rattle.cache.proofs.Homes.{home_at_all}
use Rattle.crawl.proofs.host_cache.PoolHostCache.prune.Goals as goal

pub returns : goal.returns
returns g c = home_at_all _ c.args.self.now c.prune-closed.new.self c.prune-closed.ensures.done
