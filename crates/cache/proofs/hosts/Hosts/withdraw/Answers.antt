use Rattle.std.proofs.Common.{Some, sym, ap, ◌∙◌}
use Rattle.bundle.specs.declared.did.Did.TheVariants.{Stranger}
use Rattle.host_state.specs.Calls.{after_withdraw}
use Rattle.host_state.specs.Laws.{IsSoundAndQuiet}
use Rattle.cache.specs.AllHosts.{marked}
use Rattle.cache.proofs.HostParts.{part_changed}
use Rattle.cache.proofs.AtHost.{withdrawn_at, strange_at}
use Rattle.cache.proofs.OneHost.{all_marked, stepped, there_inside}
use Rattle.cache.proofs.Calling.{kept_called, was_kept, notes_oldest, marks_one}
use Rattle.cache.proofs.SameLog.{told_either, pool_same}
use Rattle.cache.proofs.hosts.Hosts.withdraw.Goals as goal
use Rattle.cache.proofs.hosts.Hosts.withdraw.Goals.{in-Ok, in-Err}

pub invariant_of-self : goal.invariant_of-self
invariant_of-self g c =
    let site = c.site-site.result in
    let hosts = c.self.inside.bundles.items in
    let was = c.index_mut-bundle.result.now in
    let new = c.withdraw-withdrawn.new.self in
    let inside = c.self.inside in
    let later = c.withdraw-withdrawn.new.permits.budget.now in
    let after = c.withdraw-withdrawn.new.lobby.0 in
    let told = c.withdraw-withdrawn.new.pass in
    let lowered = c.note_oldest.new.noted in
    let done = c.withdraw-withdrawn.ensures in
    let read = c.index_mut-bundle.ensures.value in
    let there = there_inside site c.self.view_is (rw c.site-site.ensures c.requires.there) in
    let part = part_changed c.at-permits.ensures.host c.at-permits.ensures.budget done.permits.stays done.permits.part in
    let it = was_kept site hosts was new inside.budget later inside.lobby after inside.pass told inside.noted lowered c.self.invariant there read in
    let settled : IsSoundAndQuiet new.settings new.log = done.settled in
    let marks = marks_one was.host site _ _ inside.lobby after it.place done.lobby.marked in
    let tells = told_either c.withdraw-withdrawn.result was.host _ _ _ (Some (Stranger c.args.ticket.wait.want.transfer)) inside.pass told done.withdrawn done.stranger in
    let notes = notes_oldest _ site inside.noted lowered new.log (rw c.self.invariant.stamps there) (done.host.same.host ∙ it.place) c.note_oldest.ensures in
    kept_called site hosts was new inside.budget later inside.lobby after inside.pass told inside.noted lowered c.self.invariant there read done.host.same settled part marks tells done.pass.seats done.pass.account notes

pub returns-clause-ok : goal.returns-clause-ok
returns-clause-ok g c =
    let site = c.site-site.result in
    let hosts = c.self.inside.bundles.items in
    let was = c.index_mut-bundle.result.now in
    let new = c.withdraw-withdrawn.new.self in
    let inside = c.self.inside in
    let limits = inside.budget.limits in
    let after = c.withdraw-withdrawn.new.lobby.0 in
    let later = c.withdraw-withdrawn.new.permits.budget.now in
    let done = c.withdraw-withdrawn.ensures in
    let read = c.index_mut-bundle.ensures.value in
    let there = there_inside site c.self.view_is (rw c.site-site.ensures c.requires.there) in
    let part = part_changed c.at-permits.ensures.host c.at-permits.ensures.budget done.permits.stays done.permits.part in
    let it = was_kept site hosts was new inside.budget inside.budget inside.lobby after inside.pass inside.pass inside.noted inside.noted c.self.invariant there read in
    let transfer = c.args.ticket.wait.want.transfer in
    let marked_is = all_marked limits hosts site was new inside.lobby.order after.order there it.place (done.host.same.settings ∙ it.settings) it.listed done.lobby.marked.order in
    elim c.match-withdrawn.branch [
      | in-Ok w ↦
          let step = stepped (λ s l. after_withdraw s l transfer c.args.now) limits hosts inside.lobby.order site was new.log there read it.settings w.in-Ok.ensures.ended.log in
          rw w.result-is (rw (sym c.self.view_is) (withdrawn_at site hosts was new limits later.limits inside.lobby.order after.order there read part.others.limits done.host c.args.ticket (sym c.site-site.ensures) _
          (rw (sym c.site-site.ensures) (marked_is ∙ ap (marked limits site) step)) w.in-Ok.ensures.ended.valid w.in-Ok.ensures.ended.streams w.in-Ok.ensures.ended.spends))
      | in-Err w ↦ rw w.result-is tt
    ]

pub returns-clause-strange : goal.returns-clause-strange
returns-clause-strange g c =
    let site = c.site-site.result in
    let inside = c.self.inside in
    let hosts = inside.bundles.items in
    let was = c.index_mut-bundle.result.now in
    let new = c.withdraw-withdrawn.new.self in
    let after = c.withdraw-withdrawn.new.lobby.0 in
    let later = c.withdraw-withdrawn.new.permits.budget.now in
    let done = c.withdraw-withdrawn.ensures in
    let read = c.index_mut-bundle.ensures.value in
    let there = there_inside site c.self.view_is (rw c.site-site.ensures c.requires.there) in
    elim c.match-withdrawn.branch [
      | in-Ok w ↦ rw w.result-is tt
      | in-Err w ↦
          let part = part_changed c.at-permits.ensures.host c.at-permits.ensures.budget done.permits.stays done.permits.part in
          let same = pool_same inside.budget.limits later.limits site hosts was new inside.lobby after part.others.limits read w.in-Err.ensures.err.0 done.lobby.marked in
          rw w.result-is (rw (sym c.self.view_is) (same, strange_at site hosts was new inside.budget.limits later.limits inside.lobby.order after.order there read part.others.limits c.args.ticket (sym c.site-site.ensures) w.in-Err.ensures.strange.0, w.in-Err.ensures.strange.1))
    ]
