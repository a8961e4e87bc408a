use Rattle.std.proofs.Common.{refl, ap}
use Rattle.budget.specs.Lobby.{Queue}
use Rattle.budget.specs.Plain.{Plain}
use Rattle.cache.proofs.NewHosts.{kept_new, pool_new, none_booked}
use Rattle.cache.proofs.hosts.Hosts.new.Goals as goal

pub invariant_of-result : goal.invariant_of-result
invariant_of-result g c =
    kept_new c.args.limits c.args.hosts c.add_bundles.new.bundles.items c.in_ok-budget.budget c.in_ok-lobby.lobby c.add_bundles.new.pass c.in_ok-noted.noted
    c.in-Ok.ensures.new_hosts c.requires c.in_ok-budget.ensures.ok c.in_ok-lobby.ensures.ok c.add_bundles.ensures.accounts c.in_ok-noted.ensures.ok

pub returns-in-Ok-clause-new_pool : goal.returns-in-Ok-clause-new_pool
returns-in-Ok-clause-new_pool g c =
    let hosts = c.add_bundles.new.bundles.items in
    let budget = ap (λ (b : Plain). b.limits) c.in_ok-budget.ensures.ok in
    let queue = ap (λ (q : Queue). q.order) c.in_ok-lobby.ensures.ok in
    pool_new c.args.limits c.args.hosts hosts c.add_bundles.new.pass _ c.in-Ok.ensures.new_hosts (rw budget (rw queue refl))

pub returns-in-Ok-clause-none_booked : goal.returns-in-Ok-clause-none_booked
returns-in-Ok-clause-none_booked g c = none_booked c.args.limits c.args.hosts c.add_bundles.new.bundles.items c.add_bundles.new.pass c.in-Ok.ensures.new_hosts
