use Rattle.host_state.specs.Effects.{idle_len}
use Rattle.std.proofs.Common.{◌≡◌, ℕ, true, slice_set, refl, sym, ap, subst, ◌∙◌}
use Rattle.std.specs.Prelude.{if◌then◌else◌}
use Rattle.cache.specs.Oldest.{earlier_of, is_since_before, stamp_at}
use Rattle.cache.proofs.OldestStamps.{given_back_not_later}
use Rattle.host_state.specs.Calls.{after_give_back, becomes_idle, is_queued}
use Rattle.conn_log.specs.Fit.{oldest_stamp}
use Rattle.host_state.specs.Laws.{IsSoundAndQuiet}
use Rattle.cache.specs.AllHosts.{marked}
use Rattle.cache.proofs.HostParts.{part_changed}
use Rattle.cache.proofs.AtHost.{taken_at}
use Rattle.cache.proofs.OneHost.{all_marked, stepped, log_was, there_inside}
use Rattle.cache.proofs.Calling.{kept_called, was_kept, told_spending, tells_nothing, notes_returned, marks_nothing, NotesOne, TellsOne}
use Rattle.cache.proofs.NoneQueued.{none_in, not_queued, stays_so, same_order, pool_stays}
use Rattle.cache.proofs.Returning.{gave_log, gave_none, gave_again, gave_strange, one_more_idle, room_kept}
use Rattle.cache.proofs.hosts.Hosts.keep_at_once.Goals as goal

pub unreachable-requires : goal.unreachable-requires
unreachable-requires g c =
    gave_again c.index_mut-bundle.result.now c.give_back-back.new.self c.give_back-back.new.permits.budget.now c.args.lease c.args.facts c.args.now c.in-Again._lease c.in-Again.ensures.answer.told

pub unreachable-requires-in-Strange : goal.unreachable-requires-in-Strange
unreachable-requires-in-Strange g c =
    gave_strange c.index_mut-bundle.result.now c.give_back-back.new.self c.give_back-back.new.permits.budget.now c.args.lease c.args.facts c.args.now c.in-Strange._stray c.in-Strange.ensures.answer.told

pub invariant_of-self : goal.invariant_of-self
invariant_of-self g c =
    let site = c.site-site.result in
    let hosts = c.self.inside.bundles.items in
    let was = c.index_mut-bundle.result.now in
    let new = c.give_back-back.new.self in
    let inside = c.self.inside in
    let later = c.give_back-back.new.permits.budget.now in
    let told = c.give_back-back.new.pass in
    let done = c.give_back-back.ensures in
    let read = c.index_mut-bundle.ensures.value in
    let there = there_inside site c.self.view_is (rw c.site-site.ensures c.requires.here.there) in
    let part = part_changed c.at-permits.ensures.host c.at-permits.ensures.budget done.permits.stays done.permits.part in
    let it = was_kept site hosts was new inside.budget later inside.lobby inside.lobby inside.pass told inside.noted inside.noted c.self.invariant there read in
    let settled : IsSoundAndQuiet new.settings new.log = done.settled in
    let not_was = not_queued inside.lobby.order site (is_queued was.settings was.log) (none_in _ _ c.self.view_is c.requires.none_queued) it.listed in
    let marks = marks_nothing site (is_queued was.settings was.log) (is_queued new.settings new.log) inside.lobby it.listed (stays_so _ _ not_was done.lobby.mark) in
    let tells = told_spending was.host _ _ inside.pass told c.in-Spent.ensures.spent in
    let noted = c.note_after_return.new.noted in
    let back = gave_log was new later c.args.lease c.args.facts c.args.now _ c.in-Spent.ensures.answer.told in
    let still = λ (early : is_since_before (stamp_at inside.noted site) c.args.now ≡ true). given_back_not_later was.settings was.log new.log c.args.lease.start.number c.args.facts c.args.now site (stamp_at inside.noted site) back early it.not_later in
    let noted_is = subst (λ (host : ℕ). noted ≡ (if is_since_before (stamp_at inside.noted host) c.args.now then inside.noted else slice_set inside.noted host (earlier_of (stamp_at inside.noted host) (oldest_stamp new.log host)))) (done.host.same.host ∙ it.place) c.note_after_return.ensures in
    let notes = notes_returned site c.args.now inside.noted noted (oldest_stamp new.log site) (rw c.self.invariant.stamps there) noted_is still in
    kept_called site hosts was new inside.budget later inside.lobby inside.lobby inside.pass told inside.noted noted c.self.invariant there read done.host.same settled part marks tells done.pass.seats done.pass.account notes

pub invariant_of-self-in-NoKeep : goal.invariant_of-self-in-NoKeep
invariant_of-self-in-NoKeep g c =
    let site = c.site-site.result in
    let hosts = c.self.inside.bundles.items in
    let was = c.index_mut-bundle.result.now in
    let new = c.give_back-back.new.self in
    let inside = c.self.inside in
    let later = c.give_back-back.new.permits.budget.now in
    let told = c.give_back-back.new.pass in
    let done = c.give_back-back.ensures in
    let read = c.index_mut-bundle.ensures.value in
    let there = there_inside site c.self.view_is (rw c.site-site.ensures c.requires.here.there) in
    let part = part_changed c.at-permits.ensures.host c.at-permits.ensures.budget done.permits.stays done.permits.part in
    let it = was_kept site hosts was new inside.budget later inside.lobby inside.lobby inside.pass told inside.noted inside.noted c.self.invariant there read in
    let settled : IsSoundAndQuiet new.settings new.log = done.settled in
    let not_was = not_queued inside.lobby.order site (is_queued was.settings was.log) (none_in _ _ c.self.view_is c.requires.none_queued) it.listed in
    let marks = marks_nothing site (is_queued was.settings was.log) (is_queued new.settings new.log) inside.lobby it.listed (stays_so _ _ not_was done.lobby.mark) in
    let tells : TellsOne was.host inside.pass told = rw c.in-NoKeep.ensures.unended.1 (tells_nothing was.host inside.pass) in
    let none = gave_none was new later c.args.lease c.args.facts c.args.now _ c.in-NoKeep.ensures.answer.told in
    let notes : NotesOne site inside.noted inside.noted (oldest_stamp new.log site) = record { stamps = refl; other_stamps = λ other apart. refl; not_later = rw none.same_host it.not_later } in
    kept_called site hosts was new inside.budget later inside.lobby inside.lobby inside.pass told inside.noted inside.noted c.self.invariant there read done.host.same settled part marks tells done.pass.seats done.pass.account notes

pub returns-in-NoKeep-clause-back : goal.returns-in-NoKeep-clause-back
returns-in-NoKeep-clause-back g c =
    let site = c.site-site.result in
    let inside = c.self.inside in
    let was = c.index_mut-bundle.result.now in
    let new = c.give_back-back.new.self in
    let later = c.give_back-back.new.permits.budget.now in
    let part = part_changed c.at-permits.ensures.host c.at-permits.ensures.budget c.give_back-back.ensures.permits.stays c.give_back-back.ensures.permits.part in
    let there = there_inside site c.self.view_is (rw c.site-site.ensures c.requires.here.there) in
    let it = was_kept site inside.bundles.items was new inside.budget later inside.lobby inside.lobby inside.pass inside.pass inside.noted inside.noted c.self.invariant there c.index_mut-bundle.ensures.value in
    let none = gave_none was new later c.args.lease c.args.facts c.args.now _ c.in-NoKeep.ensures.answer.told in
    let same = pool_stays inside.budget.limits later.limits site inside.bundles.items was new inside.lobby.order part.others.limits c.index_mut-bundle.ensures.value none.same_host in
    (none.same_lease, same ∙ c.self.view_is)

pub returns-in-Spent-clause-can_keep : goal.returns-in-Spent-clause-can_keep
returns-in-Spent-clause-can_keep g c =
    let site = c.site-site.result in
    let inside = c.self.inside in
    let hosts = inside.bundles.items in
    let was = c.index_mut-bundle.result.now in
    let new = c.give_back-back.new.self in
    let later = c.give_back-back.new.permits.budget.now in
    let read = c.index_mut-bundle.ensures.value in
    let there = there_inside site c.self.view_is (rw c.site-site.ensures c.requires.here.there) in
    let part = part_changed c.at-permits.ensures.host c.at-permits.ensures.budget c.give_back-back.ensures.permits.stays c.give_back-back.ensures.permits.part in
    let it = was_kept site hosts was new inside.budget inside.budget inside.lobby inside.lobby inside.pass inside.pass inside.noted inside.noted c.self.invariant there read in
    let log = log_was hosts site was there read in
    let transfer = c.args.lease.start.want.transfer in
    let number = c.args.lease.start.number in
    let back = gave_log was new later c.args.lease c.args.facts c.args.now _ c.in-Spent.ensures.answer.told in
    let room = (λ (idle : becomes_idle was.log number c.args.facts c.args.now ≡ true).
    room_kept site hosts was new inside.budget later there read c.self.invariant.parts part c.in-Spent.ensures.permits.stands.1
    (ap idle_len back ∙ one_more_idle was.settings was.log transfer number c.args.facts c.args.now it.settled c.in-Spent.ensures.answer.known idle)) in
    rw (sym c.self.view_is) (rw (sym c.site-site.ensures) (rw (sym log) room))

pub returns-in-Spent-clause-done : goal.returns-in-Spent-clause-done
returns-in-Spent-clause-done g c =
    let site = c.site-site.result in
    let hosts = c.self.inside.bundles.items in
    let was = c.index_mut-bundle.result.now in
    let new = c.give_back-back.new.self in
    let inside = c.self.inside in
    let limits = inside.budget.limits in
    let later = c.give_back-back.new.permits.budget.now in
    let done = c.give_back-back.ensures in
    let ended = c.in-Spent.ensures in
    let read = c.index_mut-bundle.ensures.value in
    let there = there_inside site c.self.view_is (rw c.site-site.ensures c.requires.here.there) in
    let part = part_changed c.at-permits.ensures.host c.at-permits.ensures.budget done.permits.stays done.permits.part in
    let it = was_kept site hosts was new inside.budget inside.budget inside.lobby inside.lobby inside.pass inside.pass inside.noted inside.noted c.self.invariant there read in
    let not_was = not_queued inside.lobby.order site (is_queued was.settings was.log) (none_in _ _ c.self.view_is c.requires.none_queued) it.listed in
    let number = c.args.lease.start.number in
    let marked_is = all_marked limits hosts site was new inside.lobby.order inside.lobby.order there it.place (done.host.same.settings ∙ it.settings) it.listed (same_order was.host (is_queued was.settings was.log) (is_queued new.settings new.log) inside.lobby.order not_was (done.lobby.mark not_was)) in
    let back = gave_log was new later c.args.lease c.args.facts c.args.now _ ended.answer.told in
    let step = stepped (λ s l. after_give_back s l number c.args.facts c.args.now) limits hosts inside.lobby.order site was new.log there read it.settings back in
    rw (sym c.self.view_is) (taken_at site hosts was new limits later.limits inside.lobby.order inside.lobby.order there read part.others.limits done.host c.args.lease (sym c.site-site.ensures) _
    (rw (sym c.site-site.ensures) (marked_is ∙ ap (marked limits site) step)) it.settled.sound ended.answer.known ended.returned.stream ended.returned.streams ended.returned.spends)
