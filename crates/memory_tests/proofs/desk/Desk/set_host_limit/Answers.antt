use Rattle.memory_tests.proofs.DeskHost.{after_marked}
use Rattle.memory_tests.proofs.desk.Desk.set_host_limit.Goals as goal

pub invariant_of-self : goal.invariant_of-self
invariant_of-self c =
    let desk = c.self.inside in
    let call = c.set_host_limit.ensures in
    after_marked desk.bundle c.set_host_limit.new.self _ _ _ _ _ _ _ _ _ _ c.self.invariant c.host.ensures c.at-permits.ensures.budget c.at-permits.ensures.host call.permits.stays.1 call.permits.stays.2 call.permits.part call.host.stays.same call.lobby call.pass.seats
