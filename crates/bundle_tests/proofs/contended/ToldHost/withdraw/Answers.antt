use Rattle.bundle_tests.proofs.DeskHosts.{still_enrolled}
use Rattle.bundle_tests.proofs.contended.ToldHost.withdraw.Goals as goal

pub invariant_of-self : goal.invariant_of-self
invariant_of-self g c =
    let call = c.withdraw.ensures in
    record {
      part = call.permits.part;
      lists = rw call.host.same.host call.lobby.marked.lists;
      enrolled = still_enrolled c.self.inside.bundle c.withdraw.new.self c.self.inside.pass c.withdraw.new.pass call.host.same call.pass.seats c.self.invariant.enrolled;
    }
