use Rattle.std.proofs.Common.{◌≡◌, true, length}
use Rattle.audit_stream.specs.Reading.{ReadsUpTo, goes_on}
use Rattle.audit_stream.specs.Runs.{told_by}
use Rattle.audit_stream.specs.Writing.{Writes}
use Rattle.audit_stream.proofs.reading.Run.read_complete.Given as goal

abbrev pub invariant-loop-line : goal.invariant-loop-line
invariant-loop-line g l =
    let sink = g.W.Sink.sink in
    record {
      reads : ReadsUpTo l.text l.rest (told_by l.fn.self) (told_by l.self);
      goes : goes_on l.fn.self.teller.telling.all (told_by l.self) ≡ true;
      same : l.self.teller.telling ≡ l.fn.self.teller.telling;
      writes : Writes (sink l.fn.output) (sink l.output) 0;
    }

abbrev pub decreases-loop-line : goal.decreases-loop-line
decreases-loop-line g l = length l.rest
