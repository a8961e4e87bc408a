use Rattle.std.proofs.Common.{◌-◌, vec_len}
use Rattle.std.specs.Io.KnownBytes.{Consumes}
use Rattle.streams.specs.Streams.{SameFailures}
use Rattle.script_engine.proofs.reading.read_script.Given as goal

abbrev pub invariant-loop-piece : goal.invariant-loop-piece
invariant-loop-piece g l =
    let source = g.R.Source.source in
    record {
      consumed : Consumes (source l.fn.reader).bytes (source l.reader).bytes l.script.items;
      unfailed : SameFailures (source l.fn.reader) (source l.reader);
    }

abbrev pub decreases-loop-piece : goal.decreases-loop-piece
decreases-loop-piece g l = 1048577 - vec_len l.script
