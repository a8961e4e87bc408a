use Rattle.std.proofs.Common.{List, ℕ, subst}
use Rattle.budget.specs.Lobby.{IsQueue}
use Rattle.budget.proofs.Queues.{queue_turned}
use Rattle.budget.proofs.lobby.Lobby.rotate.Goals as goal

pub invariant_of-self : goal.invariant_of-self
invariant_of-self c =
    let hosts = c.self.inside.hosts in
    let before = subst (λ (order : List ℕ). IsQueue record { hosts = hosts; order = order }) c.in-Some.ensures.items c.self.invariant.queue in
    record {
      queue = rw c.push_back_reserved.ensures.items (queue_turned hosts c.in-Some.first c.pop_front.new.self.items before);
      room = rw (c.push_back_reserved.ensures.capacity, c.in-Some.ensures.capacity) c.self.invariant.room;
    }

pub returns-in-Some-clause-queue : goal.returns-in-Some-clause-queue
returns-in-Some-clause-queue c = (invariant_of-self c).queue
