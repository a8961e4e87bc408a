use Rattle.bundle.proofs.Settling.{marked_as}
use Rattle.bundle.proofs.host.Bundle.abandon.Goals as goal

pub returns-in-Some-clause-lobby : goal.returns-in-Some-clause-lobby
returns-in-Some-clause-lobby g c =
    record {
      marked = rw c.in-Some.is (marked_as _ _ _ _ _ _ _ c.close_leased-freed.ensures.host.same.host c.queued-was_queued.ensures c.mark.ensures);
      mark = c.close_leased-freed.ensures.mark;
    }
