use Rattle.std.proofs.Common.{rules, ◌≡◌, ap, ◌∙◌}
use Rattle.std.proofs.lemmas.Fn.{filter_same}
use Rattle.budget.specs.Lobby.{Queue, without_host}
use Rattle.budget.proofs.Queues.{queue_without, gone}
use Rattle.budget.proofs.lobby.Lobby.delist.Goals as goal

pub invariant_of-self : goal.invariant_of-self
invariant_of-self c =
    let order = c.self.inside.order.items in
    let left : c.retain.new.self.items ≡ without_host order c.args.host = filter_same _ _ _ (λ x b f' k. search rules) _ _ c.retain.ensures.filtered in
    record {
      queue = rw left (queue_without _ order c.args.host c.self.invariant.queue);
      room = rw c.retain.ensures.capacity c.self.invariant.room;
    }

pub returns-clause-order : goal.returns-clause-order
returns-clause-order c =
    let order = c.self.inside.order.items in
    let left : c.retain.new.self.items ≡ without_host order c.args.host = filter_same _ _ _ (λ x b f' k. search rules) _ _ c.retain.ensures.filtered in
    left ∙ ap (λ (queue : Queue). without_host queue.order c.args.host) c.self.view_is

pub returns-clause-gone : goal.returns-clause-gone
returns-clause-gone c =
    let order = c.self.inside.order.items in
    let left : c.retain.new.self.items ≡ without_host order c.args.host = filter_same _ _ _ (λ x b f' k. search rules) _ _ c.retain.ensures.filtered in
    rw left (gone order c.args.host)

pub returns-clause-queue : goal.returns-clause-queue
returns-clause-queue c = (invariant_of-self c).queue
