use Rattle.std.proofs.Common.{◌≡◌, false, sym, ap, subst, ◌∙◌}
use Rattle.budget.specs.Lobby.{is_listed, without_host}
use Rattle.budget.proofs.Queues.{listed_first}
use Rattle.bundle.specs.Lease.{HostShown}
use Rattle.host_state.specs.Orders.{HadTurn}
use Rattle.host_state.proofs.QueuedHosts.{turn_at_end, turn_left}
use Rattle.bundle.proofs.host.Bundle.end_turn.Goals as goal

pub returns-then-queued : goal.returns-then-queued
returns-then-queued g c =
    let host = c.args.self.now.host in
    let before = c.args.lobby.now in
    let after = c.rotate.new.self in
    let there = c.first-first.ensures.queue.there host (listed_first before.order host c.requires) in
    subst (λ b. HadTurn host b before after) (sym c.if-queued.true ∙ c.queued.ensures) (turn_at_end host before after there c.rotate.ensures.hosts c.requires c.rotate.ensures.order)

pub delist-requires : goal.delist-requires
delist-requires g c =
    let order = c.args.lobby.now.order in
    let named = c.host.ensures ∙ ap (λ (v : HostShown g.row.S.Denot). v.host) c.self.view_is in
    ap (is_listed order) named ∙ listed_first order c.args.self.now.host c.requires

pub returns : goal.returns
returns g c =
    let host = c.args.self.now.host in
    let before = c.args.lobby.now in
    let after = c.delist.new.self in
    let named = c.host.ensures ∙ ap (λ (v : HostShown g.row.S.Denot). v.host) c.self.view_is in
    let there = c.first-first.ensures.queue.there host (listed_first before.order host c.requires) in
    let gone : is_listed after.order host ≡ false = ap (is_listed after.order) (sym named) ∙ c.delist.ensures.gone in
    subst (λ b. HadTurn host b before after) (sym c.if-queued.false ∙ c.queued.ensures) (turn_left host before after there c.delist.ensures.hosts (c.delist.ensures.order ∙ ap (without_host before.order) named) gone)
