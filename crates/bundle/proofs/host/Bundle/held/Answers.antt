use Rattle.bundle.proofs.host.Bundle.held.Goals as goal

pub invariant_of-self : goal.invariant_of-self
invariant_of-self g c = rw c.held.ensures.same c.self.invariant
