use Rattle.bundle.proofs.Settling.{marked_as}
use Rattle.bundle.proofs.host.Bundle.withdraw.Goals as goal

pub returns-in-Some-clause-lobby : goal.returns-in-Some-clause-lobby
returns-in-Some-clause-lobby g c =
    record {
      marked = rw c.in-Some.is (marked_as _ _ _ _ _ _ _ c.end_wait-withdrawn.ensures.host.same.host c.queued-was_queued.ensures c.mark.ensures);
      mark = c.end_wait-withdrawn.ensures.mark;
    }
