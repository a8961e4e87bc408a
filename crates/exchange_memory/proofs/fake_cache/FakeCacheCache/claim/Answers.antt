use Rattle.std.proofs.Common.{rules, ◌≡◌, ◌∙◌}
use Rattle.cache.specs.PoolCalls.{KeepsTicket, home_of}
use Rattle.cache_trait.specs.CacheCalls.CacheCall.{keeps_waiting}
use Rattle.exchange_memory.specs.FakeCaches.{IsNoted}
use Rattle.exchange_memory.proofs.StillHome.{still_waits, still_home}
use Rattle.exchange_memory.proofs.fake_cache.FakeCacheCache.claim.Goals as goal

pub returns-in-Ok-Still-clause-done : goal.returns-in-Ok-Still-clause-done
returns-in-Ok-Still-clause-done g c =
    let ticket = c.in-Ok-Still.ticket in
    let kept : KeepsTicket {S = g.row.W.Denot} c.args.self.now.pool c.claim.new.self ticket = search rules in
    let noted : IsNoted {S = g.row.W.Denot} (keeps_waiting ticket) c.args.self.now c.count_wait.new.self = search rules in
    (still_waits c.args.self.now.pool c.claim.new.self c.count_wait.new.self.pool ticket kept c.count_wait.ensures.hosts c.count_wait.ensures.stays, noted)

pub returns-in-Ok-Still-clause-stays : goal.returns-in-Ok-Still-clause-stays
returns-in-Ok-Still-clause-stays g c =
    let before : home_of {S = g.row.W.Denot} c.claim.new.self ≡ home_of c.args.self.now.pool = search rules in
    still_home c.claim.new.self c.count_wait.new.self.pool c.count_wait.ensures.hosts c.count_wait.ensures.stays ∙ before
