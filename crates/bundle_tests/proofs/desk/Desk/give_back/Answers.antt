use Rattle.std.proofs.Common.{ap, ◌∙◌}
use Rattle.bundle.proofs.ComingBack.{back-made}
use Rattle.bundle_tests.proofs.DeskHosts.{after_marked}
use Rattle.bundle_tests.proofs.desk.Desk.give_back.Goals as goal

pub invariant_of-self : goal.invariant_of-self
invariant_of-self g c =
    let desk = c.self.inside in
    let call = c.give_back.ensures in
    after_marked desk.bundle c.give_back.new.self desk.other _ _ _ _ _ _ _ _ _ _ c.self.invariant c.host.ensures c.at-permits.ensures.budget c.at-permits.ensures.host call.permits.stays.1 call.permits.stays.2 call.permits.part call.host.same call.lobby.marked call.pass.seats

pub returns-clause-made_here : goal.returns-clause-made_here
returns-clause-made_here g c =
    let here = ap (λ l. l.tables) c.with_stream-lease.ensures.same ∙ c.requires.here in
    back-made c.self.inside.bundle c.give_back.new.self c.with_stream-lease.result c.args.self.now.here here _ _ c.give_back.result c.give_back.ensures.answer.told
