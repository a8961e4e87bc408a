use Rattle.std.proofs.Common.{◌-◌, length}
use Rattle.cache.proofs.Pruning.{ArePruned}
use Rattle.cache.proofs.hosts.Hosts.prune.Given as goal

abbrev pub invariant-loop-site : goal.invariant-loop-site
invariant-loop-site g l = ArePruned l.now l.max_age l.max_life l.site l.closed l.fn.self l.self

abbrev pub decreases-loop-site : goal.decreases-loop-site
decreases-loop-site g l = length l.self.hosts - l.site
