use Rattle.std.proofs.Common.{◌+◌, ℕ, slice_set, refl, sym, ap, subst, ◌∙◌}
use Rattle.budget.specs.Accounts.{spent_at}
use Rattle.conn_log.specs.Fit.{oldest_stamp}
use Rattle.host_state.specs.Calls.{is_queued}
use Rattle.host_state.specs.Laws.{IsSoundAndQuiet}
use Rattle.bundle.specs.Lease.{HostShown, KeepsAll, KeepsStreams}
use Rattle.cache.specs.AllHosts.{oldest_of_all}
use Rattle.cache.specs.Pools.{PoolShown, all_hosts, KeepsHost}
use Rattle.cache.proofs.HostParts.{part_changed}
use Rattle.cache.proofs.Calling.{kept_called, was_kept, tells_nothing, notes_set, marks_nothing}
use Rattle.cache.proofs.Claims.{spent_where_one_changes}
use Rattle.cache.proofs.AtHost.{all_at}
use Rattle.cache.proofs.StreamsStay.{open_ones_stay}
use Rattle.cache.proofs.Closing.{found_at, own_stamp, is_done, all_without, fewer_without}
use Rattle.cache.proofs.OneHost.{read_is, there_inside}
use Rattle.cache.proofs.Reused.{streams_where_one_changes}
use Rattle.cache.proofs.hosts.Hosts.close_at.Goals as goal

pub invariant_of-self : goal.invariant_of-self
invariant_of-self g c =
    let stamp = c.args.stamp in
    let site = stamp.host in
    let inside = c.self.inside in
    let hosts = inside.bundles.items in
    let was = c.index_mut-bundle.result.now in
    let new = c.evict_oldest-closed.new.self in
    let later = c.evict_oldest-closed.new.permits.budget.now in
    let done = c.evict_oldest-closed.ensures in
    let read = c.index_mut-bundle.ensures.value in
    let there = there_inside site c.self.view_is c.requires.there in
    let part = part_changed c.at-permits.ensures.host c.at-permits.ensures.budget done.permits.stays done.permits.part in
    let it = was_kept site hosts was new inside.budget later inside.lobby inside.lobby inside.pass inside.pass inside.noted c.set.new.self c.self.invariant there read in
    let settled : IsSoundAndQuiet new.settings new.log = done.settled in
    let marks = marks_nothing site (is_queued was.settings was.log) (is_queued new.settings new.log) inside.lobby it.listed done.mark in
    let notes = notes_set site inside.noted c.set.new.self _ _ (rw c.self.invariant.stamps there) (c.oldest-oldest.ensures ∙ ap (oldest_stamp new.log) (done.host.stays.same.host ∙ it.place)) c.set.ensures in
    kept_called site hosts was new inside.budget later inside.lobby inside.lobby inside.pass inside.pass inside.noted c.set.new.self c.self.invariant there read done.host.stays.same settled part marks
    (tells_nothing was.host inside.pass) (λ host table seat. seat) (ap (λ (n : ℕ). n + spent_at inside.pass was.host) done.same_gone) notes

pub returns-clause-done : goal.returns-clause-done
returns-clause-done g c =
    let stamp = c.args.stamp in
    let inside = c.self.inside in
    let hosts = inside.bundles.items in
    let was = c.index_mut-bundle.result.now in
    let new = c.evict_oldest-closed.new.self in
    let done = c.evict_oldest-closed.ensures in
    let read = c.index_mut-bundle.ensures.value in
    let there = there_inside stamp.host c.self.view_is c.requires.there in
    let it = was_kept stamp.host hosts was new inside.budget inside.budget inside.lobby inside.lobby inside.pass inside.pass inside.noted inside.noted c.self.invariant there read in
    let e = ap (λ (p : PoolShown g.row.S.Denot). oldest_of_all (all_hosts p)) c.self.view_is ∙ c.requires.oldest in
    let found = found_at (record { limits = inside.budget.limits; hosts = hosts; queue = inside.lobby.order }) stamp e in
    let closed = is_done c.evict_oldest-closed.result done.not_oldest (own_stamp hosts stamp was found read it.place) in
    let part = part_changed c.at-permits.ensures.host c.at-permits.ensures.budget done.permits.stays done.permits.part in
    let all = all_without inside.budget.limits inside.lobby.order hosts stamp new c.args.short c.args.now e was (read_is hosts stamp.host was there read) (done.log closed) in
    let keeps : KeepsHost was new = record { stays = done.host.stays; keeps = done.host.keeps; streams = open_ones_stay was new done.host.streams } in
    rw (sym c.self.view_is) (all_at stamp.host hosts was new inside.budget.limits c.evict_oldest-closed.new.permits.budget.now.limits inside.lobby.order inside.lobby.order there read part.others.limits _ all keeps)

pub returns-clause-fewer : goal.returns-clause-fewer
returns-clause-fewer g c =
    let stamp = c.args.stamp in
    let inside = c.self.inside in
    let hosts = inside.bundles.items in
    let was = c.index_mut-bundle.result.now in
    let new = c.evict_oldest-closed.new.self in
    let done = c.evict_oldest-closed.ensures in
    let read = c.index_mut-bundle.ensures.value in
    let there = there_inside stamp.host c.self.view_is c.requires.there in
    let it = was_kept stamp.host hosts was new inside.budget inside.budget inside.lobby inside.lobby inside.pass inside.pass inside.noted inside.noted c.self.invariant there read in
    let e = ap (λ (p : PoolShown g.row.S.Denot). oldest_of_all (all_hosts p)) c.self.view_is ∙ c.requires.oldest in
    let found = found_at (record { limits = inside.budget.limits; hosts = hosts; queue = inside.lobby.order }) stamp e in
    let closed = is_done c.evict_oldest-closed.result done.not_oldest (own_stamp hosts stamp was found read it.place) in
    let fewer = fewer_without inside.budget.limits inside.lobby.order hosts stamp new c.args.short c.args.now was found (read_is hosts stamp.host was there read) (done.log closed) it.settled c.requires.cause in
    rw (sym c.self.view_is) fewer

pub returns-clause-spent : goal.returns-clause-spent
returns-clause-spent g c =
    let site = c.args.stamp.host in
    let inside = c.self.inside in
    let hosts = inside.bundles.items in
    let was = c.index_mut-bundle.result.now in
    let new = c.evict_oldest-closed.new.self in
    let done = c.evict_oldest-closed.ensures in
    let there = there_inside site c.self.view_is c.requires.there in
    let was_is = read_is hosts site was there c.index_mut-bundle.ensures.value in
    let before : PoolShown g.row.S.Denot = record { limits = inside.budget.limits; hosts = hosts; queue = inside.lobby.order } in
    let after : PoolShown g.row.S.Denot = record { limits = c.evict_oldest-closed.new.permits.budget.now.limits; hosts = slice_set hosts site new; queue = inside.lobby.order } in
    rw (sym c.self.view_is) (spent_where_one_changes before after site new there refl done.settled.sound c.log-log.ensures.unclaimed
    (subst (λ (h : HostShown g.row.S.Denot). KeepsAll h new) was_is done.host.keeps))

pub returns-clause-streams : goal.returns-clause-streams
returns-clause-streams g c =
    let site = c.args.stamp.host in
    let inside = c.self.inside in
    let hosts = inside.bundles.items in
    let was = c.index_mut-bundle.result.now in
    let new = c.evict_oldest-closed.new.self in
    let done = c.evict_oldest-closed.ensures in
    let there = there_inside site c.self.view_is c.requires.there in
    let was_is = read_is hosts site was there c.index_mut-bundle.ensures.value in
    let before : PoolShown g.row.S.Denot = record { limits = inside.budget.limits; hosts = hosts; queue = inside.lobby.order } in
    let after : PoolShown g.row.S.Denot = record { limits = c.evict_oldest-closed.new.permits.budget.now.limits; hosts = slice_set hosts site new; queue = inside.lobby.order } in
    rw (sym c.self.view_is) (streams_where_one_changes before after site new there refl (subst (λ (h : HostShown g.row.S.Denot). KeepsStreams h new) was_is done.host.streams))
