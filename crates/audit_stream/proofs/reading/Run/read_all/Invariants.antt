use Rattle.std.proofs.Common.{◌≡◌, true}
use Rattle.audit_stream.specs.Reading.{goes_on}
use Rattle.audit_stream.specs.Runs.{told_by}
use Rattle.audit_stream.specs.Writing.{Writes}
use Rattle.audit_stream.proofs.Pieces.{ReadsSoFar}
use Rattle.audit_stream.proofs.reading.Run.read_all.Given as goal

abbrev pub invariant-pieces : goal.invariant-pieces
invariant-pieces g l =
    let source = g.R.Source.source in
    let sink = g.W.Sink.sink in
    record {
      so_far : ReadsSoFar (source l.fn.reader) (source l.reader) l.text.items (told_by l.fn.self) (told_by l.self);
      goes : goes_on l.fn.self.teller.telling.all (told_by l.self) ≡ true;
      same : l.self.teller.telling ≡ l.fn.self.teller.telling;
      writes : Writes (sink l.fn.output) (sink l.output) 0;
    }
