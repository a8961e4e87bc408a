use Rattle.memory_tests.proofs.DeskHost.{after_turned}
use Rattle.memory_tests.proofs.desk.Desk.serve_queued.Goals as goal

pub invariant_of-self : goal.invariant_of-self
invariant_of-self c =
    let desk = c.self.inside in
    let call = c.serve_queued.ensures in
    after_turned _ desk.bundle c.serve_queued.new.self _ _ _ _ _ _ _ _ _ c.self.invariant c.host-2.ensures c.at-permits.ensures.budget c.at-permits.ensures.host call.permits.stays.1 call.permits.stays.2 call.permits.part call.host.stays.same call.lobby call.unchanged
