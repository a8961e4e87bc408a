-- The log of a pool at rest is legal.
use Rattle.std.proofs.Common.{◌≡◌, ℕ, ◌<◌, length, ap, subst}
use Rattle.conn_log.specs.Legal.{IsLegal}
use Rattle.cache.specs.Pools.{PoolShown, host_at}
use Rattle.held_pool.specs.Calls.{HeldShown}
use Rattle.held_pool.proofs.Nothing.{legal_at}
use Rattle.held_pool.proofs.held_pool.HeldPool.log.Goals as goal

pub returns-clause-legal : goal.returns-clause-legal
returns-clause-legal c =
    let site = c.args.site in
    let shown : c.self.inside.pool ≡ c.args.self.now.pool = ap (λ (held : HeldShown). held.pool) c.self.view_is in
    subst (λ (pool : PoolShown ℕ). site < length pool.hosts → IsLegal (host_at pool site).settings (host_at pool site).log) shown (legal_at c.self.inside.pool c.log.ensures.at_rest c.log.ensures.places site)
