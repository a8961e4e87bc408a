use Rattle.std.proofs.Common.{◌-◌, sym, ap, subst, ◌∙◌}
use Rattle.std.specs.Prelude.{min}
use Rattle.std.specs.List.{sum_by}
use Rattle.budget.specs.Lobby.{Queue}
use Rattle.host_state.specs.Steps.{moment_at}
use Rattle.host_state.specs.Calls.{after_limit, limit_refusal, kept_limit, starts_due, is_queued}
use Rattle.host_state.specs.Effects.{open_len}
use Rattle.host_state.specs.Laws.{IsSoundAndQuiet}
use Rattle.bundle.specs.Passes.{limit_did}
use Rattle.cache.specs.AllHosts.{marked}
use Rattle.cache.specs.Pools.{logs_of}
use Rattle.cache.proofs.HostParts.{part_changed}
use Rattle.cache.proofs.OneHost.{all_marked, stepped, there_inside, read_is}
use Rattle.cache.proofs.Calling.{kept_called, was_kept, told_so, notes_oldest, marks_one}
use Rattle.bundle.specs.Lease.{HostShown}
use Rattle.cache.specs.Pools.{KeepsHost}
use Rattle.cache.specs.PoolCalls.{IsReason}
use Rattle.cache.proofs.AtHost.{all_at}
use Rattle.cache.proofs.StreamsStay.{open_ones_stay}
use Rattle.cache.proofs.Refusals.{is_reason}
use Rattle.cache.proofs.Limiting.{limited_log, hosts_same}
use Rattle.cache.proofs.hosts.Hosts.set_host_limit.Goals.{in-Ok-Done, in-Err}
use Rattle.cache.proofs.hosts.Hosts.set_host_limit.Goals as goal

pub set_host_limit-changed-requires-clause-enrolled : goal.set_host_limit-changed-requires-clause-enrolled
set_host_limit-changed-requires-clause-enrolled g c =
    let inside = c.self.inside in
    let was = c.index_mut-bundle.result.now in
    let there = there_inside c.args.site c.self.view_is c.requires.there in
    (was_kept c.args.site inside.bundles.items was was inside.budget inside.budget inside.lobby inside.lobby inside.pass inside.pass inside.noted inside.noted c.self.invariant there c.index_mut-bundle.ensures.value).enrolled

pub invariant_of-self : goal.invariant_of-self
invariant_of-self g c =
    let site = c.args.site in
    let inside = c.self.inside in
    let hosts = inside.bundles.items in
    let was = c.index_mut-bundle.result.now in
    let new = c.set_host_limit-changed.new.self in
    let later = c.set_host_limit-changed.new.permits.budget.now in
    let after = c.set_host_limit-changed.new.lobby in
    let told = c.set_host_limit-changed.new.pass in
    let lowered = c.note_oldest.new.noted in
    let done = c.set_host_limit-changed.ensures in
    let read = c.index_mut-bundle.ensures.value in
    let there = there_inside site c.self.view_is c.requires.there in
    let part = part_changed c.at-permits.ensures.host c.at-permits.ensures.budget done.permits.stays done.permits.part in
    let it = was_kept site hosts was new inside.budget later inside.lobby after inside.pass told inside.noted lowered c.self.invariant there read in
    let settled : IsSoundAndQuiet new.settings new.log = done.settled in
    let marks = marks_one was.host site _ _ inside.lobby after it.place done.lobby in
    let tells = told_so was.host (limit_did (kept_limit c.args.limit) (moment_at was.log c.args.now) c.set_host_limit-changed.result) inside.pass told done.tells in
    let notes = notes_oldest _ site inside.noted lowered new.log (rw c.self.invariant.stamps there) (done.host.stays.same.host ∙ it.place) c.note_oldest.ensures in
    kept_called site hosts was new inside.budget later inside.lobby after inside.pass told inside.noted lowered c.self.invariant there read done.host.stays.same settled part marks tells done.pass.seats done.pass.account notes

pub returns-clause-done : goal.returns-clause-done
returns-clause-done g c = elim c.match-changed.branch [
  | in-Ok-Done w ↦
      let site = c.args.site in
      let n = c.args.limit in
      let now = c.args.now in
      let inside = c.self.inside in
      let hosts = inside.bundles.items in
      let limits = inside.budget.limits in
      let was = c.index_mut-bundle.result.now in
      let new = c.set_host_limit-changed.new.self in
      let later = c.set_host_limit-changed.new.permits.budget.now in
      let after = c.set_host_limit-changed.new.lobby in
      let done = c.set_host_limit-changed.ensures in
      let read = c.index_mut-bundle.ensures.value in
      let there = there_inside site c.self.view_is c.requires.there in
      let part = part_changed c.at-permits.ensures.host c.at-permits.ensures.budget done.permits.stays done.permits.part in
      let it = was_kept site hosts was new inside.budget later inside.lobby after inside.pass inside.pass inside.noted inside.noted c.self.invariant there read in
      let log = limited_log n now limits hosts site was new later _ c.set_host_limit-changed.result w.in-Ok-Done.field-0 w.in-Ok-Done.is done.refused done.changed done.again it.settled there read (invariant_of-self g c).parts part.others.limits done.permits.stands.1 in
      let marked_is = all_marked limits hosts site was new inside.lobby.order after.order there it.place (done.host.stays.same.settings ∙ it.settings) it.listed done.lobby.order in
      let total = sum_by open_len (logs_of hosts) in
      let step = stepped (λ s l. after_limit (kept_limit n) (min (starts_due (is_queued s l) (kept_limit n) l) (limits.total - total)) s l now) limits hosts inside.lobby.order site was new.log there read it.settings log in
      let keeps : KeepsHost was new = record { stays = done.host.stays; keeps = done.host.keeps; streams = open_ones_stay was new done.host.streams } in
      rw w.result-is (rw (sym c.self.view_is) (all_at site hosts was new limits later.limits inside.lobby.order after.order there read part.others.limits _ (marked_is ∙ ap (marked limits site) step) keeps))
  | in-Err w ↦ rw w.result-is tt
]

pub returns-clause-refused : goal.returns-clause-refused
returns-clause-refused g c = elim c.match-changed.branch [
  | in-Ok-Done w ↦ rw w.result-is tt
  | in-Err w ↦
      let inside = c.self.inside in
      let hosts = inside.bundles.items in
      let was = c.index_mut-bundle.result.now in
      let done = c.set_host_limit-changed.ensures in
      let refused = w.in-Err.ensures in
      let read = c.index_mut-bundle.ensures.value in
      let there = there_inside c.args.site c.self.view_is c.requires.there in
      let part = part_changed c.at-permits.ensures.host c.at-permits.ensures.budget done.permits.stays done.permits.part in
      let same = hosts_same hosts c.args.site was c.set_host_limit-changed.new.self read refused.err.0 in
      let queue = ap (λ (q : Queue). q.order) refused.err.2 in
      let reason = is_reason _ (limit_refusal c.args.limit was.log) w.in-Err.refusal refused.refused refused.else_memory in
      rw w.result-is (
        rw same (rw queue (rw part.others.limits c.self.view_is)),
        rw (sym c.self.view_is) (subst (λ (h : HostShown g.row.S.Denot). IsReason (limit_refusal c.args.limit h.log) w.in-Err.refusal) (read_is hosts c.args.site was there read) reason),
      )
]
