use Rattle.std.proofs.Common.{ℕ, List, subst}
use Rattle.script_engine.specs.Traces.{output_of}
use Rattle.script_engine.specs.Running.{RunsWithoutReading}
use Rattle.script_engine.proofs.Running.{unread-script, run-read}
use Rattle.script_engine.proofs.script.run_script_for.Goals as goal

pub returns-in-Err : goal.returns-in-Err
returns-in-Err g c = unread-script c.args.is_traced (g.R.Source.source c.args.reader.now) (g.R.Source.source c.read_script.new.reader) (g.W.Sink.sink c.args.writer.now) c.in-Err.kind c.in-Err.ensures

pub returns-in-Ok : goal.returns-in-Ok
returns-in-Ok g c =
    let source = g.R.Source.source in
    let sink = g.W.Sink.sink in
    let whole = c.in-Ok.ensures in
    run-read c.args.is_traced (source c.args.reader.now) (source c.read_script.new.reader) (sink c.args.writer.now) (sink c.run_engine.new.writer) c.in-Ok.script.items c.run_engine.result
    whole.0 whole.1 whole.2 whole.3
    (subst (λ (script : List ℕ). RunsWithoutReading (sink c.args.writer.now) (sink c.run_engine.new.writer) (output_of c.args.is_traced script) c.run_engine.result) c.as_slice.ensures.value c.run_engine.ensures)
