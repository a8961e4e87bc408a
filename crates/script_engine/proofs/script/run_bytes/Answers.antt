use Rattle.std.proofs.Common.{false}
use Rattle.script_engine.proofs.Running.{run-memory, of-no-stream}
use Rattle.streams.specs.Streams.{in_memory}
use Rattle.script_engine.proofs.script.run_bytes.Goals as goal

pub returns-clause-lines : goal.returns-clause-lines
returns-clause-lines c = run-memory false c.args.script.now c.run_script.new.reader.now (in_memory c.args.out.now.items) (in_memory c.run_script.new.writer.items) c.run_script.result c.run_script.ensures

pub returns-clause-streams : goal.returns-clause-streams
returns-clause-streams c = of-no-stream false c.args.script.now c.run_script.new.reader.now c.args.out.now.items c.run_script.new.writer.items c.run_script.result c.run_script.ensures
