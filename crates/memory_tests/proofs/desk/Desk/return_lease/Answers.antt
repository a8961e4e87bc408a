use Rattle.bundle.proofs.ComingBack.{back-made}
use Rattle.memory_tests.proofs.DeskHost.{after_marked}
use Rattle.memory_tests.proofs.desk.Desk.return_lease.Goals as goal

pub invariant_of-self : goal.invariant_of-self
invariant_of-self c =
    let desk = c.self.inside in
    let call = c.give_back.ensures in
    after_marked desk.bundle c.give_back.new.self _ _ _ _ _ _ _ _ _ _ c.self.invariant c.host.ensures c.at-permits.ensures.budget c.at-permits.ensures.host call.permits.stays.1 call.permits.stays.2 call.permits.part call.host.same call.lobby.marked call.pass.seats

pub returns-clause-made_here : goal.returns-clause-made_here
returns-clause-made_here c =
    back-made c.self.inside.bundle c.give_back.new.self c.args.lease c.args.self.now c.requires.here _ _ c.give_back.result c.give_back.ensures.answer.told
