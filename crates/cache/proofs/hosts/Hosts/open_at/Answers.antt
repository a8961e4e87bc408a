use Rattle.std.proofs.Common.{◌≡◌, ◌+◌, ℕ, true, slice_set, slice_get, Some, refl, sym, ap, subst, ◌∙◌}
use Rattle.budget.specs.Accounts.{spent_at}
use Rattle.budget.proofs.Queues.{listed_first}
use Rattle.host_state.specs.Calls.{is_queued, after_turn}
use Rattle.host_state.specs.Laws.{IsSoundAndQuiet}
use Rattle.bundle.specs.Lease.{HostShown, KeepsAll}
use Rattle.bundle.specs.Replies.{answer_of}
use Rattle.cache.specs.AllHosts.{has_room}
use Rattle.cache.specs.Pools.{PoolShown, all_hosts, KeepsHost}
use Rattle.cache.proofs.HostParts.{part_changed}
use Rattle.cache.proofs.Calling.{kept_called, was_kept, tells_nothing}
use Rattle.cache.proofs.Claims.{spent_where_one_changes}
use Rattle.cache.proofs.AtHost.{all_at}
use Rattle.cache.proofs.StreamsStay.{open_ones_stay}
use Rattle.cache.proofs.Opening.{marks_turn, notes_none, turn_given, served_turn, all_turned, still_none_idle, waits_less}
use Rattle.cache.proofs.OneHost.{read_is, there_inside}
use Rattle.cache.proofs.hosts.Hosts.open_at.Goals as goal

pub serve_queued-given-requires-clause-queued : goal.serve_queued-given-requires-clause-queued
serve_queued-given-requires-clause-queued g c =
    let site = c.args.host in
    let inside = c.self.inside in
    let hosts = inside.bundles.items in
    let was = c.index_mut-bundle.result.now in
    let there = there_inside site c.self.view_is c.requires.there in
    let it = was_kept site hosts was was inside.budget inside.budget inside.lobby inside.lobby inside.pass inside.pass inside.noted inside.noted c.self.invariant there c.index_mut-bundle.ensures.value in
    let first : slice_get inside.lobby.order 0 ≡ Some site = ap (λ (p : PoolShown g.row.S.Denot). slice_get p.queue 0) c.self.view_is ∙ c.requires.first in
    sym it.listed ∙ listed_first inside.lobby.order site first

pub serve_queued-given-requires-clause-first : goal.serve_queued-given-requires-clause-first
serve_queued-given-requires-clause-first g c =
    let site = c.args.host in
    let inside = c.self.inside in
    let hosts = inside.bundles.items in
    let was = c.index_mut-bundle.result.now in
    let there = there_inside site c.self.view_is c.requires.there in
    let it = was_kept site hosts was was inside.budget inside.budget inside.lobby inside.lobby inside.pass inside.pass inside.noted inside.noted c.self.invariant there c.index_mut-bundle.ensures.value in
    ap (λ (p : PoolShown g.row.S.Denot). slice_get p.queue 0) c.self.view_is ∙ c.requires.first ∙ ap (λ (h : ℕ). Some h) (sym it.place)

pub invariant_of-self : goal.invariant_of-self
invariant_of-self g c =
    let site = c.args.host in
    let inside = c.self.inside in
    let hosts = inside.bundles.items in
    let was = c.index_mut-bundle.result.now in
    let new = c.serve_queued-given.new.self in
    let later = c.serve_queued-given.new.permits.budget.now in
    let after = c.serve_queued-given.new.lobby in
    let done = c.serve_queued-given.ensures in
    let read = c.index_mut-bundle.ensures.value in
    let there = there_inside site c.self.view_is c.requires.there in
    let part = part_changed c.at-permits.ensures.host c.at-permits.ensures.budget done.permits.stays done.permits.part in
    let it = was_kept site hosts was new inside.budget later inside.lobby after inside.pass inside.pass inside.noted inside.noted c.self.invariant there read in
    let settled : IsSoundAndQuiet new.settings new.log = done.settled in
    let room = ap (λ (p : PoolShown g.row.S.Denot). has_room p.limits (all_hosts p)) c.self.view_is ∙ c.requires.room in
    let got = turn_given hosts site was new inside.budget later there read c.self.invariant.parts part done.told.0 c.args.now room done.told.1 done.told.3 in
    let turn = served_turn was.host c.serve_queued-given.result (is_queued new.settings new.log) inside.lobby after (done.told.2 ∙ ap answer_of got) done.lobby in
    let queued : is_queued was.settings was.log ≡ true = sym it.listed ∙ listed_first inside.lobby.order site (ap (λ (p : PoolShown g.row.S.Denot). slice_get p.queue 0) c.self.view_is ∙ c.requires.first) in
    let log = subst (λ t. new.log ≡ after_turn t was.settings was.log c.args.now) got done.told.3 in
    let none = still_none_idle inside.budget.limits hosts site was new inside.lobby.order after.order c.args.now there read it.settings log it.settled queued in
    kept_called site hosts was new inside.budget later inside.lobby after inside.pass inside.pass inside.noted inside.noted c.self.invariant there read done.host.stays.same settled part
    (marks_turn was.host site (is_queued new.settings new.log) inside.lobby after it.place turn)
    (tells_nothing was.host inside.pass) (λ host table seat. seat) (ap (λ (n : ℕ). n + spent_at inside.pass was.host) done.same_gone) (notes_none site inside.noted new.log none)

pub returns-clause-done : goal.returns-clause-done
returns-clause-done g c =
    let site = c.args.host in
    let inside = c.self.inside in
    let hosts = inside.bundles.items in
    let was = c.index_mut-bundle.result.now in
    let new = c.serve_queued-given.new.self in
    let later = c.serve_queued-given.new.permits.budget.now in
    let after = c.serve_queued-given.new.lobby in
    let done = c.serve_queued-given.ensures in
    let read = c.index_mut-bundle.ensures.value in
    let there = there_inside site c.self.view_is c.requires.there in
    let part = part_changed c.at-permits.ensures.host c.at-permits.ensures.budget done.permits.stays done.permits.part in
    let it = was_kept site hosts was new inside.budget later inside.lobby after inside.pass inside.pass inside.noted inside.noted c.self.invariant there read in
    let room = ap (λ (p : PoolShown g.row.S.Denot). has_room p.limits (all_hosts p)) c.self.view_is ∙ c.requires.room in
    let got = turn_given hosts site was new inside.budget later there read c.self.invariant.parts part done.told.0 c.args.now room done.told.1 done.told.3 in
    let turn = served_turn was.host c.serve_queued-given.result (is_queued new.settings new.log) inside.lobby after (done.told.2 ∙ ap answer_of got) done.lobby in
    let log = subst (λ t. new.log ≡ after_turn t was.settings was.log c.args.now) got done.told.3 in
    let all = all_turned inside.budget.limits hosts site was new inside.lobby.order after.order c.args.now there read it.settings log it.place done.host.stays.same.settings turn.order in
    let keeps : KeepsHost was new = record { stays = done.host.stays; keeps = done.host.keeps; streams = open_ones_stay was new done.host.streams } in
    rw (sym c.self.view_is) (all_at site hosts was new inside.budget.limits later.limits inside.lobby.order after.order there read part.others.limits _ all keeps)

pub returns-clause-one_waits_less : goal.returns-clause-one_waits_less
returns-clause-one_waits_less g c =
    let site = c.args.host in
    let inside = c.self.inside in
    let hosts = inside.bundles.items in
    let was = c.index_mut-bundle.result.now in
    let new = c.serve_queued-given.new.self in
    let later = c.serve_queued-given.new.permits.budget.now in
    let after = c.serve_queued-given.new.lobby in
    let done = c.serve_queued-given.ensures in
    let read = c.index_mut-bundle.ensures.value in
    let there = there_inside site c.self.view_is c.requires.there in
    let part = part_changed c.at-permits.ensures.host c.at-permits.ensures.budget done.permits.stays done.permits.part in
    let it = was_kept site hosts was new inside.budget later inside.lobby after inside.pass inside.pass inside.noted inside.noted c.self.invariant there read in
    let room = ap (λ (p : PoolShown g.row.S.Denot). has_room p.limits (all_hosts p)) c.self.view_is ∙ c.requires.room in
    let got = turn_given hosts site was new inside.budget later there read c.self.invariant.parts part done.told.0 c.args.now room done.told.1 done.told.3 in
    let queued : is_queued was.settings was.log ≡ true = sym it.listed ∙ listed_first inside.lobby.order site (ap (λ (p : PoolShown g.row.S.Denot). slice_get p.queue 0) c.self.view_is ∙ c.requires.first) in
    let log = subst (λ t. new.log ≡ after_turn t was.settings was.log c.args.now) got done.told.3 in
    rw (sym c.self.view_is) (waits_less inside.budget.limits hosts site was new inside.lobby.order after.order c.args.now there read it.settings log it.settled queued)

pub returns-clause-spent : goal.returns-clause-spent
returns-clause-spent g c =
    let site = c.args.host in
    let inside = c.self.inside in
    let hosts = inside.bundles.items in
    let was = c.index_mut-bundle.result.now in
    let new = c.serve_queued-given.new.self in
    let done = c.serve_queued-given.ensures in
    let there = there_inside site c.self.view_is c.requires.there in
    let was_is = read_is hosts site was there c.index_mut-bundle.ensures.value in
    let before : PoolShown g.row.S.Denot = record { limits = inside.budget.limits; hosts = hosts; queue = inside.lobby.order } in
    let later : PoolShown g.row.S.Denot = record { limits = c.serve_queued-given.new.permits.budget.now.limits; hosts = slice_set hosts site new; queue = c.serve_queued-given.new.lobby.order } in
    rw (sym c.self.view_is) (spent_where_one_changes before later site new there refl done.settled.sound c.log-log.ensures.unclaimed
    (subst (λ (h : HostShown g.row.S.Denot). KeepsAll h new) was_is done.host.keeps))
