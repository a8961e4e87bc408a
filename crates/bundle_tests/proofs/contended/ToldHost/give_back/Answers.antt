use Rattle.std.proofs.Common.{ap, ◌∙◌}
use Rattle.bundle.proofs.ComingBack.{back-made}
use Rattle.bundle_tests.proofs.DeskHosts.{still_enrolled}
use Rattle.bundle_tests.proofs.contended.ToldHost.give_back.Goals as goal

pub returns-clause-made_here : goal.returns-clause-made_here
returns-clause-made_here g c =
    let here = ap (λ l. l.tables) c.with_stream-lease.ensures.same ∙ c.requires.here in
    back-made c.self.inside.bundle c.give_back.new.self c.with_stream-lease.result c.args.self.now here _ _ c.give_back.result c.give_back.ensures.answer.told

pub invariant_of-self : goal.invariant_of-self
invariant_of-self g c =
    let call = c.give_back.ensures in
    record {
      part = call.permits.part;
      lists = rw call.host.same.host call.lobby.marked.lists;
      enrolled = still_enrolled c.self.inside.bundle c.give_back.new.self c.self.inside.pass c.give_back.new.pass call.host.same call.pass.seats c.self.invariant.enrolled;
    }
