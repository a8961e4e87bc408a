use Rattle.std.proofs.Common.{◌≤◌, ◌+◌, length}
use Rattle.streams.specs.Lines.{lines}
use Rattle.script_engine.specs.Traces.{told_as}
use Rattle.script_engine.proofs.Running.{RunSoFar}
use Rattle.script_engine.proofs.script.run_lines.Given as goal

abbrev pub invariant-loop-rest : goal.invariant-loop-rest
invariant-loop-rest g l =
    let run = g.M.Machine.run in
    let sink = g.W.Sink.sink in
    record {
      count : l.line + length l.rest ≤ 1048576;
      so_far : RunSoFar (sink l.fn.writer) (sink l.writer) (told_as l.fn.is_traced (run l.fn.machine) 1 (lines l.script)) (told_as l.fn.is_traced (run l.machine) (l.line + 1) (lines l.rest)) l.line;
    }

abbrev pub decreases-loop-rest : goal.decreases-loop-rest
decreases-loop-rest g l = length l.rest
