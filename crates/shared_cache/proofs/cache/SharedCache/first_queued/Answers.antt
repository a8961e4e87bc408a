use Rattle.shared_cache.proofs.QueuedHosts.{first_there}
use Rattle.shared_cache.proofs.cache.SharedCache.first_queued.Goals as goal

pub returns : goal.returns
returns g c = first_there c.behind-queue.inside.lobby c.first.result _ c.first.ensures.first c.first.ensures.queue c.behind-queue.invariant.places
