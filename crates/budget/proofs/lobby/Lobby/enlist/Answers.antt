use Rattle.std.proofs.Common.{rules, ◌≡◌, false, ap, ◌∙◌, arith, length-append, ◌∷◌, []}
use Rattle.budget.specs.Lobby.{Queue, is_listed}
use Rattle.budget.proofs.Queues.{queue_last, fits}
use Rattle.budget.proofs.lobby.Lobby.enlist.Goals as goal

pub push_back_reserved-requires : goal.push_back_reserved-requires
push_back_reserved-requires c =
    let order = c.self.inside.order.items in
    let new : is_listed order c.args.host ≡ false = ap (λ (queue : Queue). is_listed queue.order c.args.host) c.self.view_is ∙ c.requires.new in
    let after = queue_last _ order c.args.host c.self.invariant.queue (search rules) new in
    omega (arith, fits _ _ after, length-append order (c.args.host ∷ []), c.self.invariant.room)

pub invariant_of-self : goal.invariant_of-self
invariant_of-self c =
    let order = c.self.inside.order.items in
    let new : is_listed order c.args.host ≡ false = ap (λ (queue : Queue). is_listed queue.order c.args.host) c.self.view_is ∙ c.requires.new in
    record {
      queue = rw c.push_back_reserved.ensures.items (queue_last _ order c.args.host c.self.invariant.queue (search rules) new);
      room = rw c.push_back_reserved.ensures.capacity c.self.invariant.room;
    }

pub returns-clause-queue : goal.returns-clause-queue
returns-clause-queue c = (invariant_of-self c).queue
