use Rattle.std.proofs.Common.{◌≡◌}
use Rattle.audit_stream.specs.Writing.{Writes}
use Rattle.audit_stream.proofs.teller.Teller.tell_all.Given as goal

abbrev pub invariant-loop-finding : goal.invariant-loop-finding
invariant-loop-finding g l =
    let sink = g.W.Sink.sink in
    record {
      same : l.self.telling ≡ l.fn.self.telling;
      broken : l.self.is_broken ≡ l.fn.self.is_broken;
      writes : Writes (sink l.fn.output) (sink l.output) 0;
    }
