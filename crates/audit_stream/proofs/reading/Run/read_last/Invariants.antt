use Rattle.std.proofs.Common.{◌≡◌, true, length}
use Rattle.audit_stream.specs.Reading.{ReadsLast, goes_on}
use Rattle.audit_stream.specs.Runs.{told_by}
use Rattle.audit_stream.specs.Writing.{Writes}
use Rattle.audit_stream.proofs.reading.Run.read_last.Given as goal

abbrev pub invariant-loop-rest : goal.invariant-loop-rest
invariant-loop-rest g l =
    let sink = g.W.Sink.sink in
    record {
      reads : ReadsLast l.text l.rest (told_by l.fn.self) (told_by l.self);
      goes : goes_on l.fn.self.teller.telling.all (told_by l.self) ≡ true;
      same : l.self.teller.telling ≡ l.fn.self.teller.telling;
      writes : Writes (sink l.fn.output) (sink l.output) 0;
    }

abbrev pub decreases-loop-rest : goal.decreases-loop-rest
decreases-loop-rest g l = length l.rest
