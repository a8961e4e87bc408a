use Rattle.std.proofs.Common.{◌+◌, arith, refl, subst}
use Rattle.std.proofs.lemmas.Bool.Decides.{nat_tests}
use Rattle.streams.specs.Lines.{lines}
use Rattle.script_engine.specs.Traces.{told_as}
use Rattle.script_engine.proofs.Running.{RunSoFar, run-more, run-fails, run-end, run-short, no-lines}
use Rattle.script_engine.proofs.script.run_lines.Goals as goal

pub loop-rest-preserved : goal.loop-rest-preserved
loop-rest-preserved g c =
    let run = g.M.Machine.run in
    let sink = g.W.Sink.sink in
    let all = told_as c.args.is_traced (run c.args.machine.now) 1 (lines c.args.script.now) in
    let n = c.loop-rest.line + 1 in
    let before = subst (λ left. RunSoFar (sink c.args.writer.now) (sink c.loop-rest.writer) all (told_as c.args.is_traced (run c.loop-rest.machine) n left) c.loop-rest.line) c.first_line.ensures.first c.loop-rest.invariant.so_far in
    record {
      count = omega arith;
      so_far = run-more c.args.is_traced (sink c.args.writer.now) (sink c.loop-rest.writer) (sink c.run_line.new.writer) all (run c.loop-rest.machine) (run c.run_line.new.machine) c.loop-rest.line n
          c.first_line.result.0.now c.in-Ok.ensures.0 (lines c.first_line.result.1.now) before c.in-Ok.ensures.1 c.in-Ok.ensures.2 c.in-Ok.ensures.3;
    }

pub returns-in-Err : goal.returns-in-Err
returns-in-Err g c =
    let run = g.M.Machine.run in
    let sink = g.W.Sink.sink in
    let all = told_as c.args.is_traced (run c.args.machine.now) 1 (lines c.args.script.now) in
    let n = c.loop-rest.line + 1 in
    let before = subst (λ left. RunSoFar (sink c.args.writer.now) (sink c.loop-rest.writer) all (told_as c.args.is_traced (run c.loop-rest.machine) n left) c.loop-rest.line) c.first_line.ensures.first c.loop-rest.invariant.so_far in
    run-fails c.args.is_traced (sink c.args.writer.now) (sink c.loop-rest.writer) (sink c.run_line.new.writer) all (run c.loop-rest.machine) c.loop-rest.line n
    c.first_line.result.0.now (lines c.first_line.result.1.now) c.in-Err.kind refl before c.in-Err.ensures

pub returns-in-Ok-end_of_script : goal.returns-in-Ok-end_of_script
returns-in-Ok-end_of_script g c =
    let run = g.M.Machine.run in
    let sink = g.W.Sink.sink in
    run-end c.args.is_traced (sink c.args.writer.now) (sink c.loop-rest.writer) (told_as c.args.is_traced (run c.args.machine.now) 1 (lines c.args.script.now)) (run c.loop-rest.machine) c.loop-rest.line (c.loop-rest.line + 1)
    (lines c.loop-rest.rest.now) _ (no-lines c.loop-rest.rest.now (grind (arith, nat_tests))) c.loop-rest.invariant.so_far

pub returns-in-Err-end_of_script : goal.returns-in-Err-end_of_script
returns-in-Err-end_of_script g c =
    let run = g.M.Machine.run in
    let sink = g.W.Sink.sink in
    run-short c.args.is_traced (sink c.args.writer.now) (sink c.loop-rest.writer) (told_as c.args.is_traced (run c.args.machine.now) 1 (lines c.args.script.now)) (run c.loop-rest.machine) c.loop-rest.line (c.loop-rest.line + 1)
    (lines c.loop-rest.rest.now) c.in-Err-end_of_script.kind (no-lines c.loop-rest.rest.now (grind (arith, nat_tests))) c.in-Err-end_of_script.ensures.err c.loop-rest.invariant.so_far
