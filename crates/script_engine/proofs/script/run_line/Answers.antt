use Rattle.script_engine.proofs.Running.{line-fails}
use Rattle.script_engine.proofs.script.run_line.Goals as goal

pub returns-in-Err : goal.returns-in-Err
returns-in-Err g c = line-fails c.args.is_traced (g.W.Sink.sink c.args.writer.now) (g.M.Machine.run c.args.machine.now) c.args.line.now c.in-Err.kind c.in-Err.ensures
