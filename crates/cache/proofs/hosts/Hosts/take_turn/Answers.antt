use Rattle.std.proofs.Common.{ℕ, ◌<◌, length, slice_get, sym, ap, subst, ◌∙◌}
use Rattle.budget.proofs.Queues.{listed_first}
use Rattle.cache.specs.Pools.{PoolShown}
use Rattle.cache.proofs.Keeping.{still_there}
use Rattle.cache.proofs.Turning.{turn_done}
use Rattle.cache.proofs.hosts.Hosts.take_turn.Goals as goal

pub open_at-requires-clause-there : goal.open_at-requires-clause-there
open_at-requires-clause-there g c =
    let inside = c.self.inside in
    let listed = listed_first inside.lobby.order c.in-Some.host (sym c.first.ensures.first ∙ c.in-Some.is) in
    let there : c.in-Some.host < length inside.bundles.items = subst (λ (n : ℕ). c.in-Some.host < n) c.self.invariant.lobby_hosts (c.first.ensures.queue.there c.in-Some.host listed) in
    still_there c.args.self.now c.make_room.new.self c.in-Some.host (c.make_room.ensures.done c.if-not-make_room.false).stays (subst (λ (p : PoolShown g.row.S.Denot). c.in-Some.host < length p.hosts) c.self.view_is there)

pub returns-clause-done : goal.returns-clause-done
returns-clause-done g c =
    let start = c.args.self.now in
    let first = ap (λ (p : PoolShown g.row.S.Denot). slice_get p.queue 0) (sym c.self.view_is) ∙ sym c.first.ensures.first ∙ c.in-Some.is in
    λ taken. turn_done start c.make_room.new.self c.open_at.new.self c.in-Some.host c.args.now first (c.make_room.ensures.done c.if-not-make_room.false) c.open_at.ensures.done
