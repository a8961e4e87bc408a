use Rattle.std.proofs.Common.{Some, sym, ap, ◌∙◌}
use Rattle.conn_log.specs.Fit.{oldest_stamp}
use Rattle.bundle.specs.declared.did.Did.TheVariants.{Pruned as WasPruned}
use Rattle.host_state.specs.Laws.{IsSoundAndQuiet}
use Rattle.cache.specs.Calls.{pruned_log}
use Rattle.cache.proofs.HostParts.{part_changed}
use Rattle.cache.proofs.OneHost.{stepped, there_inside}
use Rattle.cache.proofs.Calling.{kept_called, was_kept, told_so, notes_set, marks_nothing}
use Rattle.cache.specs.Pools.{KeepsHost}
use Rattle.cache.proofs.AtHost.{all_at}
use Rattle.cache.proofs.StreamsStay.{open_ones_stay}
use Rattle.cache.proofs.Pruning.{all_stepped}
use Rattle.cache.proofs.hosts.Hosts.prune_at.Goals as goal

pub prune-closed-requires-clause-enrolled : goal.prune-closed-requires-clause-enrolled
prune-closed-requires-clause-enrolled g c =
    let inside = c.self.inside in
    let was = c.index_mut-bundle.result.now in
    let there = there_inside c.args.site c.self.view_is c.requires.there in
    (was_kept c.args.site inside.bundles.items was was inside.budget inside.budget inside.lobby inside.lobby inside.pass inside.pass inside.noted inside.noted c.self.invariant there c.index_mut-bundle.ensures.value).enrolled

pub invariant_of-self : goal.invariant_of-self
invariant_of-self g c =
    let site = c.args.site in
    let inside = c.self.inside in
    let hosts = inside.bundles.items in
    let was = c.index_mut-bundle.result.now in
    let new = c.prune-closed.new.self in
    let later = c.prune-closed.new.permits.budget.now in
    let told = c.prune-closed.new.pass in
    let lowered = c.set.new.self in
    let done = c.prune-closed.ensures in
    let read = c.index_mut-bundle.ensures.value in
    let there = there_inside site c.self.view_is c.requires.there in
    let part = part_changed c.at-permits.ensures.host c.at-permits.ensures.budget done.permits.stays done.permits.part in
    let it = was_kept site hosts was new inside.budget later inside.lobby inside.lobby inside.pass told inside.noted lowered c.self.invariant there read in
    let settled : IsSoundAndQuiet new.settings new.log = done.settled in
    let marks = marks_nothing site _ _ inside.lobby it.listed done.mark in
    let tells = told_so was.host (Some (WasPruned c.args.now c.args.max_age c.args.max_life c.prune-closed.result)) inside.pass told done.tells in
    let notes = notes_set site inside.noted lowered _ _ (rw c.self.invariant.stamps there) (c.oldest-oldest.ensures ∙ ap (oldest_stamp new.log) (done.host.stays.same.host ∙ it.place)) c.set.ensures in
    kept_called site hosts was new inside.budget later inside.lobby inside.lobby inside.pass told inside.noted lowered c.self.invariant there read done.host.stays.same settled part marks tells done.pass.seats done.pass.account notes

pub returns-clause-done : goal.returns-clause-done
returns-clause-done g c =
    let site = c.args.site in
    let inside = c.self.inside in
    let hosts = inside.bundles.items in
    let limits = inside.budget.limits in
    let was = c.index_mut-bundle.result.now in
    let new = c.prune-closed.new.self in
    let later = c.prune-closed.new.permits.budget.now in
    let done = c.prune-closed.ensures in
    let read = c.index_mut-bundle.ensures.value in
    let there = there_inside site c.self.view_is c.requires.there in
    let part = part_changed c.at-permits.ensures.host c.at-permits.ensures.budget done.permits.stays done.permits.part in
    let it = was_kept site hosts was was inside.budget inside.budget inside.lobby inside.lobby inside.pass inside.pass inside.noted inside.noted c.self.invariant there read in
    let step = stepped (λ s l. pruned_log c.args.now c.args.max_age c.args.max_life l) limits hosts inside.lobby.order site was new.log there read it.settings done.log in
    let keeps : KeepsHost was new = record { stays = done.host.stays; keeps = done.host.keeps; streams = open_ones_stay was new done.host.streams } in
    rw (sym c.self.view_is) (all_at site hosts was new limits later.limits inside.lobby.order inside.lobby.order there read part.others.limits _ (all_stepped limits hosts site was new inside.lobby.order ∙ step) keeps)
