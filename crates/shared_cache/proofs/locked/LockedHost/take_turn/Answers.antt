use Rattle.std.proofs.Common.{◌≡◌, ℕ, not, true, slice_get, Some, sym, ap, ◌∙◌, rules}
use Rattle.std.specs.Option.{option_eq}
use Rattle.std.proofs.Math.Dec.{eqb}
use Rattle.budget.specs.Lobby.{is_listed}
use Rattle.budget.proofs.Queues.{listed_first}
use Rattle.shared_cache.proofs.QueuedHosts.{not_another}
use Rattle.shared_cache.proofs.locked.LockedHost.take_turn.Goals as goal

pub serve_queued-served-requires-clause-queued : goal.serve_queued-served-requires-clause-queued
serve_queued-served-requires-clause-queued g c =
    let first : slice_get c.queue.inside.lobby.order 0 ≡ Some c.self.inside.bundle.host = search rules in
    let listed : is_listed c.queue.inside.listed.hosts c.self.inside.mark.host ≡ true = rw c.queue.invariant.order (rw c.self.invariant.marked_host (listed_first _ _ first)) in
    sym c.self.invariant.marked ∙ sym c.load.ensures.agree ∙ listed

pub delist-requires-clause-marked : goal.delist-requires-clause-marked
delist-requires-clause-marked g c =
    let first : slice_get c.queue.inside.lobby.order 0 ≡ Some c.self.inside.bundle.host = search rules in
    let listed : is_listed c.queue.inside.listed.hosts c.self.inside.mark.host ≡ true = rw c.queue.invariant.order (rw c.self.invariant.marked_host (listed_first _ _ first)) in
    let same = ap (λ m. m.mark) c.load.ensures.host in
    same ∙ sym c.load.ensures.agree ∙ listed

pub invariant_of-self : goal.invariant_of-self
invariant_of-self g c =
    let first : slice_get c.queue.inside.lobby.order 0 ≡ Some c.self.inside.bundle.host = sym c.first.ensures.first ∙ not_another c.first.result c.self.inside.bundle.host (ap (λ (h : ℕ). not (option_eq eqb c.first.result (Some h))) (sym c.host.ensures) ∙ sym c.ne.ensures ∙ c.if-ne.false) in
    let listed : is_listed c.queue.inside.listed.hosts c.self.inside.mark.host ≡ true = rw c.queue.invariant.order (rw c.self.invariant.marked_host (listed_first _ _ first)) in
    let same = ap (λ m. m.mark) c.load.ensures.host in
    record {
      tables = search rules;
      terms = search rules;
      budget = search rules;
      share = search rules;
      permits = search rules;
      link = search rules;
      marked_host = search rules;
      marked = same ∙ sym c.load.ensures.agree ∙ listed ∙ sym c.if-queued.true ∙ c.queued.ensures;
    }
