use Rattle.std.proofs.Common.{◌≡◌, sym, subst, rules}
use Rattle.bundle.specs.Lease.{HostShown, UnclaimedAreStarts}
use Rattle.cache.specs.Pools.{host_at}
use Rattle.cache.proofs.hosts.Hosts.log.Goals as goal

pub returns-in-Some-clause-unclaimed : goal.returns-in-Some-clause-unclaimed
returns-in-Some-clause-unclaimed g c =
    let is : host_at c.args.self.now c.args.site ≡ c.in-Some.bundle.now = search rules in
    subst (λ (h : HostShown g.row.S.Denot). UnclaimedAreStarts h) (sym is) c.log.ensures.unclaimed
