use Rattle.std.proofs.Common.{subst}
use Rattle.cache.specs.AllHosts.{IsLawful}
use Rattle.cache.specs.Pools.{PoolShown, all_hosts}
use Rattle.cache.proofs.LawfulHosts.{lawful}
use Rattle.cache.proofs.hosts.Hosts.is_lawful.Goals as goal

pub returns-clause-lawful : goal.returns-clause-lawful
returns-clause-lawful g c =
    let inside = c.self.inside in
    subst (λ (p : PoolShown g.row.S.Denot). IsLawful p.limits (all_hosts p)) c.self.view_is
    (lawful inside.bundles.items inside.budget inside.lobby inside.pass inside.noted c.self.invariant c.first-first.ensures.queue c.kept-kept.ensures.within)
