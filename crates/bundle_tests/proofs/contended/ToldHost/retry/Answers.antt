use Rattle.std.proofs.Common.{refl}
use Rattle.bundle_tests.proofs.DeskHosts.{still_enrolled}
use Rattle.bundle_tests.proofs.contended.ToldHost.retry.Goals as goal

pub invariant_of-self : goal.invariant_of-self
invariant_of-self g c =
    let call = c.retry.ensures in
    record {
      part = call.permits.part;
      lists = rw call.same_host.host (rw (call.mark refl) c.self.invariant.lists);
      enrolled = still_enrolled c.self.inside.bundle c.retry.new.self c.self.inside.pass c.retry.new.pass call.same_host call.pass.seats c.self.invariant.enrolled;
    }
