use Rattle.cache.proofs.Keeping.{stays_host}
use Rattle.exchange_memory.proofs.fake_cache.FakeCache.count_wait.Goals.{then-self-eq1, else-self-eq1}
use Rattle.exchange_memory.proofs.fake_cache.FakeCache.count_wait.Goals as goal

pub returns-clause-hosts : goal.returns-clause-hosts
returns-clause-hosts g c = elim c.if-self-eq1.branch [
  | then-self-eq1 w ↦ rw (← c.self.view_is, w.self-inside-is) w.release.ensures.hosts
  | else-self-eq1 w ↦ rw (← c.self.view_is, w.self-inside-is) (λ host there. stays_host _)
]
