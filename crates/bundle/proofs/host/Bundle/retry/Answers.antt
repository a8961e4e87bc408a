use Rattle.std.proofs.Common.{subst}
use Rattle.host_state.specs.Calls.{is_queued}
use Rattle.host_state.specs.Orders.{IsMarked}
use Rattle.bundle.proofs.host.Bundle.retry.Goals as goal

pub returns-in-Some-clause-lobby : goal.returns-in-Some-clause-lobby
returns-in-Some-clause-lobby g c =
    let old = c.args.self.now in
    let new = c.try_again-got.new.self in
    let is = is_queued new.settings new.log in
    let was = subst (λ b. IsMarked new.host b is c.in-Some.lobby.now c.mark.new.lobby) c.queued-was_queued.ensures c.mark.ensures in
    rw c.in-Some.is (subst (λ host. IsMarked host (is_queued old.settings old.log) is c.in-Some.lobby.now c.mark.new.lobby) c.try_again-got.ensures.same_host.host was)
