use Rattle.std.proofs.Common.{sym, ap, ◌∙◌}
use Rattle.host_state.specs.Calls.{after_abandon}
use Rattle.host_state.specs.Laws.{IsSoundAndQuiet}
use Rattle.cache.specs.AllHosts.{marked}
use Rattle.cache.proofs.HostParts.{part_changed}
use Rattle.cache.proofs.OneHost.{all_marked, stepped, there_inside}
use Rattle.cache.proofs.Calling.{kept_called, was_kept, told_spending, notes_oldest, marks_one}
use Rattle.cache.proofs.AtHost.{abandoned_at}
use Rattle.cache.proofs.hosts.Hosts.abandon.Goals as goal

pub invariant_of-self : goal.invariant_of-self
invariant_of-self g c =
    let site = c.site-site.result in
    let hosts = c.self.inside.bundles.items in
    let was = c.index_mut-bundle.result.now in
    let new = c.abandon-abandoned.new.self in
    let inside = c.self.inside in
    let later = c.abandon-abandoned.new.permits.budget.now in
    let after = c.abandon-abandoned.new.lobby.0 in
    let told = c.abandon-abandoned.new.pass in
    let lowered = c.note_oldest.new.noted in
    let done = c.in-Ok.ensures in
    let read = c.index_mut-bundle.ensures.value in
    let there = there_inside site c.self.view_is (rw c.site-site.ensures c.requires.here.there) in
    let part = part_changed c.at-permits.ensures.host c.at-permits.ensures.budget done.permits.stays done.permits.part in
    let it = was_kept site hosts was new inside.budget later inside.lobby after inside.pass told inside.noted lowered c.self.invariant there read in
    let settled : IsSoundAndQuiet new.settings new.log = done.settled in
    let marks = marks_one was.host site _ _ inside.lobby after it.place done.lobby.marked in
    let tells = told_spending was.host _ _ inside.pass told done.spent in
    let notes = notes_oldest _ site inside.noted lowered new.log (rw c.self.invariant.stamps there) (done.host.same.host ∙ it.place) c.note_oldest.ensures in
    kept_called site hosts was new inside.budget later inside.lobby after inside.pass told inside.noted lowered c.self.invariant there read done.host.same settled part marks tells done.pass.seats done.pass.account notes

pub returns : goal.returns
returns g c =
    let site = c.site-site.result in
    let hosts = c.self.inside.bundles.items in
    let was = c.index_mut-bundle.result.now in
    let new = c.abandon-abandoned.new.self in
    let inside = c.self.inside in
    let limits = inside.budget.limits in
    let after = c.abandon-abandoned.new.lobby.0 in
    let later = c.abandon-abandoned.new.permits.budget.now in
    let done = c.in-Ok.ensures in
    let read = c.index_mut-bundle.ensures.value in
    let there = there_inside site c.self.view_is (rw c.site-site.ensures c.requires.here.there) in
    let part = part_changed c.at-permits.ensures.host c.at-permits.ensures.budget done.permits.stays done.permits.part in
    let it = was_kept site hosts was new inside.budget inside.budget inside.lobby after inside.pass inside.pass inside.noted inside.noted c.self.invariant there read in
    let number = c.args.lease.start.number in
    let marked_is = all_marked limits hosts site was new inside.lobby.order after.order there it.place (done.host.same.settings ∙ it.settings) it.listed done.lobby.marked.order in
    let step = stepped (λ s l. after_abandon s l number c.args.now) limits hosts inside.lobby.order site was new.log there read it.settings done.closed.log in
    rw (sym c.self.view_is) (abandoned_at site hosts was new limits later.limits inside.lobby.order after.order there read part.others.limits done.host c.args.lease (sym c.site-site.ensures) _
    (rw (sym c.site-site.ensures) (marked_is ∙ ap (marked limits site) step)) done.closed.known done.closed.streams done.closed.spends)
