use Rattle.host_state.specs.Effects.{idle_len}
use Rattle.std.proofs.Common.{◌≡◌, true, sym, ap, ◌∙◌}
use Rattle.host_state.specs.Calls.{after_give_back, becomes_idle}
use Rattle.host_state.specs.Laws.{IsSoundAndQuiet}
use Rattle.cache.specs.AllHosts.{marked}
use Rattle.cache.proofs.HostParts.{part_changed}
use Rattle.conn_log.specs.Connections.{is_open}
use Rattle.bundle.specs.Lease.{is_held_lease}
use Rattle.cache.specs.Pools.{host_at}
use Rattle.cache.proofs.AtHost.{taken_at, held_here}
use Rattle.cache.proofs.OneHost.{all_marked, stepped, log_was, there_inside}
use Rattle.cache.proofs.Calling.{kept_called, was_kept, told_spending, tells_nothing, notes_oldest, marks_one, TellsOne}
use Rattle.cache.proofs.SameLog.{pool_same, shown_as}
use Rattle.cache.proofs.Returning.{gave_log, gave_none, gave_again, gave_strange, one_more_idle, full_kept, room_kept}
use Rattle.cache.proofs.hosts.Hosts.try_to_keep.Goals as goal
use Rattle.cache.proofs.hosts.Hosts.try_to_keep.Goals.{in-Spent, in-NoKeep}

pub unreachable-requires : goal.unreachable-requires
unreachable-requires g c =
    gave_again c.index_mut-bundle.result.now c.give_back-back.new.self c.give_back-back.new.permits.budget.now c.args.lease c.args.facts c.args.now c.in-Again._lease c.in-Again.ensures.answer.told

pub unreachable-requires-in-Strange : goal.unreachable-requires-in-Strange
unreachable-requires-in-Strange g c =
    gave_strange c.index_mut-bundle.result.now c.give_back-back.new.self c.give_back-back.new.permits.budget.now c.args.lease c.args.facts c.args.now c.in-Strange._stray c.in-Strange.ensures.answer.told

pub invariant_of-self : goal.invariant_of-self
invariant_of-self g c =
    let site = c.site-site.result in
    let hosts = c.self.inside.bundles.items in
    let was = c.index_mut-bundle.result.now in
    let new = c.give_back-back.new.self in
    let inside = c.self.inside in
    let later = c.give_back-back.new.permits.budget.now in
    let after = c.give_back-back.new.lobby.0 in
    let told = c.give_back-back.new.pass in
    let lowered = c.note_oldest.new.noted in
    let done = c.give_back-back.ensures in
    let read = c.index_mut-bundle.ensures.value in
    let there = there_inside site c.self.view_is (rw c.site-site.ensures c.requires.here.there) in
    let part = part_changed c.at-permits.ensures.host c.at-permits.ensures.budget done.permits.stays done.permits.part in
    let it = was_kept site hosts was new inside.budget later inside.lobby after inside.pass told inside.noted lowered c.self.invariant there read in
    let settled : IsSoundAndQuiet new.settings new.log = done.settled in
    let marks = marks_one was.host site _ _ inside.lobby after it.place done.lobby.marked in
    let tells : TellsOne was.host inside.pass told =
    elim c.match-back.branch [
      | in-Spent w ↦ told_spending was.host _ _ inside.pass told w.in-Spent.ensures.spent
      | in-NoKeep w ↦ rw w.in-NoKeep.ensures.unended.1 (tells_nothing was.host inside.pass)
    ] in
    let notes = notes_oldest _ site inside.noted lowered new.log (rw c.self.invariant.stamps there) (done.host.same.host ∙ it.place) c.note_oldest.ensures in
    kept_called site hosts was new inside.budget later inside.lobby after inside.pass told inside.noted lowered c.self.invariant there read done.host.same settled part marks tells done.pass.seats done.pass.account notes

pub returns-clause-back : goal.returns-clause-back
returns-clause-back g c =
    let site = c.site-site.result in
    let inside = c.self.inside in
    let was = c.index_mut-bundle.result.now in
    let new = c.give_back-back.new.self in
    let after = c.give_back-back.new.lobby.0 in
    let later = c.give_back-back.new.permits.budget.now in
    let part = part_changed c.at-permits.ensures.host c.at-permits.ensures.budget c.give_back-back.ensures.permits.stays c.give_back-back.ensures.permits.part in
    elim c.match-back.branch [
      | in-Spent w ↦ rw w.result-is tt
      | in-NoKeep w ↦
          let none = gave_none was new later c.args.lease c.args.facts c.args.now _ w.in-NoKeep.ensures.answer.told in
          let same = pool_same inside.budget.limits later.limits site inside.bundles.items was new inside.lobby after part.others.limits c.index_mut-bundle.ensures.value none.same_host c.give_back-back.ensures.lobby.marked in
          rw w.result-is (none.same_lease, same ∙ c.self.view_is)
    ]

pub returns-clause-idle : goal.returns-clause-idle
returns-clause-idle g c =
    let site = c.site-site.result in
    let hosts = c.self.inside.bundles.items in
    let was = c.index_mut-bundle.result.now in
    let there = there_inside site c.self.view_is (rw c.site-site.ensures c.requires.here.there) in
    let log = log_was hosts site was there c.index_mut-bundle.ensures.value in
    elim c.match-back.branch [
      | in-Spent w ↦ rw w.result-is tt
      | in-NoKeep w ↦
          let none = gave_none was c.give_back-back.new.self c.give_back-back.new.permits.budget.now c.args.lease c.args.facts c.args.now _ w.in-NoKeep.ensures.answer.told in
          rw w.result-is (rw (sym c.self.view_is) (rw (sym c.site-site.ensures) (rw (sym log) none.is_idle)))
    ]

pub returns-clause-kept_full : goal.returns-clause-kept_full
returns-clause-kept_full g c =
    let site = c.site-site.result in
    let inside = c.self.inside in
    let hosts = inside.bundles.items in
    let was = c.index_mut-bundle.result.now in
    let new = c.give_back-back.new.self in
    let later = c.give_back-back.new.permits.budget.now in
    let there = there_inside site c.self.view_is (rw c.site-site.ensures c.requires.here.there) in
    let part = part_changed c.at-permits.ensures.host c.at-permits.ensures.budget c.give_back-back.ensures.permits.stays c.give_back-back.ensures.permits.part in
    elim c.match-back.branch [
      | in-Spent w ↦ rw w.result-is tt
      | in-NoKeep w ↦
          let none = gave_none was new later c.args.lease c.args.facts c.args.now _ w.in-NoKeep.ensures.answer.told in
          let full = full_kept site hosts was new inside.budget later there c.index_mut-bundle.ensures.value c.self.invariant.parts part w.in-NoKeep.ensures.permits.stands.1 none.same_host none.full in
          rw w.result-is (rw (sym c.self.view_is) full)
    ]

pub returns-clause-can_keep : goal.returns-clause-can_keep
returns-clause-can_keep g c =
    let site = c.site-site.result in
    let inside = c.self.inside in
    let hosts = inside.bundles.items in
    let was = c.index_mut-bundle.result.now in
    let new = c.give_back-back.new.self in
    let later = c.give_back-back.new.permits.budget.now in
    let read = c.index_mut-bundle.ensures.value in
    let there = there_inside site c.self.view_is (rw c.site-site.ensures c.requires.here.there) in
    let part = part_changed c.at-permits.ensures.host c.at-permits.ensures.budget c.give_back-back.ensures.permits.stays c.give_back-back.ensures.permits.part in
    let it = was_kept site hosts was new inside.budget inside.budget inside.lobby inside.lobby inside.pass inside.pass inside.noted inside.noted c.self.invariant there read in
    let log = log_was hosts site was there read in
    let transfer = c.args.lease.start.want.transfer in
    let number = c.args.lease.start.number in
    elim c.match-back.branch [
      | in-NoKeep w ↦ rw w.result-is tt
      | in-Spent w ↦
          let back = gave_log was new later c.args.lease c.args.facts c.args.now _ w.in-Spent.ensures.answer.told in
          let room = (λ (idle : becomes_idle was.log number c.args.facts c.args.now ≡ true).
          room_kept site hosts was new inside.budget later there read c.self.invariant.parts part w.in-Spent.ensures.permits.stands.1
          (ap idle_len back ∙ one_more_idle was.settings was.log transfer number c.args.facts c.args.now it.settled w.in-Spent.ensures.answer.known idle)) in
          rw w.result-is (rw (sym c.self.view_is) (rw (sym c.site-site.ensures) (rw (sym log) room)))
    ]

pub returns-clause-done : goal.returns-clause-done
returns-clause-done g c =
    let site = c.site-site.result in
    let hosts = c.self.inside.bundles.items in
    let was = c.index_mut-bundle.result.now in
    let new = c.give_back-back.new.self in
    let inside = c.self.inside in
    let limits = inside.budget.limits in
    let after = c.give_back-back.new.lobby.0 in
    let later = c.give_back-back.new.permits.budget.now in
    let done = c.give_back-back.ensures in
    let read = c.index_mut-bundle.ensures.value in
    let there = there_inside site c.self.view_is (rw c.site-site.ensures c.requires.here.there) in
    let part = part_changed c.at-permits.ensures.host c.at-permits.ensures.budget done.permits.stays done.permits.part in
    let it = was_kept site hosts was new inside.budget inside.budget inside.lobby after inside.pass inside.pass inside.noted inside.noted c.self.invariant there read in
    let number = c.args.lease.start.number in
    let marked_is = all_marked limits hosts site was new inside.lobby.order after.order there it.place (done.host.same.settings ∙ it.settings) it.listed done.lobby.marked.order in
    elim c.match-back.branch [
      | in-NoKeep w ↦ rw w.result-is tt
      | in-Spent w ↦
          let ended = w.in-Spent.ensures in
          let back = gave_log was new later c.args.lease c.args.facts c.args.now _ ended.answer.told in
          let step = stepped (λ s l. after_give_back s l number c.args.facts c.args.now) limits hosts inside.lobby.order site was new.log there read it.settings back in
          rw w.result-is (rw (sym c.self.view_is) (taken_at site hosts was new limits later.limits inside.lobby.order after.order there read part.others.limits done.host c.args.lease (sym c.site-site.ensures) _
          (rw (sym c.site-site.ensures) (marked_is ∙ ap (marked limits site) step)) it.settled.sound ended.answer.known ended.returned.stream ended.returned.streams ended.returned.spends))
    ]

-- the lease that comes back is held, and its connection is open
held : (g : _) (c : goal.Joined-back g) → (let host = host_at (shown_as c.self.inside.budget.limits c.self.inside.bundles.items c.self.inside.lobby.order) c.args.lease.site in
    (is_held_lease host c.args.lease ≡ true) × (is_open host.log c.args.lease.start.number ≡ true))
held g c =
    let site = c.site-site.result in
    let inside = c.self.inside in
    let hosts = inside.bundles.items in
    let was = c.index_mut-bundle.result.now in
    let new = c.give_back-back.new.self in
    let read = c.index_mut-bundle.ensures.value in
    let done = c.give_back-back.ensures in
    let there = there_inside site c.self.view_is (rw c.site-site.ensures c.requires.here.there) in
    let part = part_changed c.at-permits.ensures.host c.at-permits.ensures.budget done.permits.stays done.permits.part in
    let it = was_kept site hosts was new inside.budget inside.budget inside.lobby inside.lobby inside.pass inside.pass inside.noted inside.noted c.self.invariant there read in
    held_here site hosts was new inside.budget.limits c.give_back-back.new.permits.budget.now.limits inside.lobby.order inside.lobby.order there read part.others.limits c.args.lease (sym c.site-site.ensures) it.settled.sound done.answer.known

pub returns-clause-known : goal.returns-clause-known
returns-clause-known g c = elim c.match-back.branch [
  | in-Spent w ↦ rw w.result-is tt
  | in-NoKeep w ↦ rw w.result-is (rw (sym c.self.view_is) (held g c).0)
]

pub returns-clause-was_open : goal.returns-clause-was_open
returns-clause-was_open g c = elim c.match-back.branch [
  | in-Spent w ↦ rw w.result-is tt
  | in-NoKeep w ↦ rw w.result-is (rw (sym c.self.view_is) (held g c).1)
]
