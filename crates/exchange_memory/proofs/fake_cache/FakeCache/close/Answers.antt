use Rattle.exchange_memory.proofs.fake_cache.FakeCache.close.Goals as goal

pub returns-clause-hosts : goal.returns-clause-hosts
returns-clause-hosts g c = rw (← c.self.view_is) c.release.ensures.hosts
