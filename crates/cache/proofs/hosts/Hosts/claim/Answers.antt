use Rattle.std.proofs.Common.{refl, sym}
use Rattle.cache.proofs.OneHost.{there_inside}
use Rattle.cache.proofs.Calling.{told_so, was_kept}
use Rattle.cache.proofs.AtHost.{granted_at, stray_at}
use Rattle.cache.proofs.CutHosts.{shown_same}
use Rattle.cache.proofs.NoneQueued.{pool_stays}
use Rattle.cache.proofs.SameLog.{kept_same_log, all_same}
use Rattle.cache.proofs.hosts.Hosts.claim.Goals as goal

pub invariant_of-self : goal.invariant_of-self
invariant_of-self g c =
    let site = c.site-site.result in
    let inside = c.self.inside in
    let hosts = inside.bundles.items in
    let was = c.index_mut.result.now in
    let new = c.claim.new.self in
    let told = c.claim.new.pass in
    let done = c.claim.ensures in
    let read = c.index_mut.ensures.value in
    let there = there_inside site c.self.view_is (rw c.site-site.ensures c.requires.there) in
    let tells = told_so was.host _ inside.pass told done.tells in
    kept_same_log site hosts was new inside.budget inside.lobby inside.pass told inside.noted c.self.invariant there read done.host.same done.log tells done.pass.seats done.pass.account

pub returns-clause-done : goal.returns-clause-done
returns-clause-done g c =
    let site = c.site-site.result in
    let inside = c.self.inside in
    let hosts = inside.bundles.items in
    let was = c.index_mut.result.now in
    let new = c.claim.new.self in
    let done = c.claim.ensures in
    let read = c.index_mut.ensures.value in
    let there = there_inside site c.self.view_is (rw c.site-site.ensures c.requires.there) in
    let it = was_kept site hosts was was inside.budget inside.budget inside.lobby inside.lobby inside.pass inside.pass inside.noted inside.noted c.self.invariant there read in
    let all = all_same site hosts was new inside.budget.limits inside.lobby.order there read done.log in
    rw (sym c.self.view_is) (granted_at site hosts was new inside.budget.limits inside.lobby.order there read done.host c.args.ticket (sym c.site-site.ensures) it.place c.claim.result
    done.valid_ticket all (pool_stays inside.budget.limits inside.budget.limits site hosts was new inside.lobby.order refl read)
    done.lease done.still)

pub returns-clause-strange : goal.returns-clause-strange
returns-clause-strange g c =
    let site = c.site-site.result in
    let inside = c.self.inside in
    let hosts = inside.bundles.items in
    let was = c.index_mut.result.now in
    let new = c.claim.new.self in
    let done = c.claim.ensures in
    let read = c.index_mut.ensures.value in
    let there = there_inside site c.self.view_is (rw c.site-site.ensures c.requires.there) in
    let it = was_kept site hosts was was inside.budget inside.budget inside.lobby inside.lobby inside.pass inside.pass inside.noted inside.noted c.self.invariant there read in
    rw (sym c.self.view_is) (stray_at site hosts was new inside.budget.limits inside.lobby.order there read done.host c.args.ticket (sym c.site-site.ensures) it.place c.claim.result _
    (shown_same site hosts was new c.claim.result inside.budget.limits inside.lobby.order read done.err) done.strange)
