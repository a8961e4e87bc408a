use Rattle.std.proofs.Common.{sym, ◌∙◌, ap, subst}
use Rattle.streams.specs.Lines.{lines}
use Rattle.script_engine.specs.Meaning.{Run}
use Rattle.script_engine.specs.Transcript.{Transcript}
use Rattle.script_engine.specs.Traces.{told_as}
use Rattle.script_engine.specs.Running.{RunsWithoutReading}
use Rattle.script_engine.proofs.Running.{short-script}
use Rattle.script_engine.proofs.script.run_engine.Goals as goal

pub returns : goal.returns
returns g c =
    let sink = g.W.Sink.sink in
    let is = ap (λ (run : Run). told_as c.args.is_traced run 1 (lines c.args.script.now)) c.in-Ok.ensures.ok ∙ sym (short-script c.args.is_traced c.args.script.now c.requires.short) in
    subst (λ (meant : Transcript). RunsWithoutReading (sink c.args.writer.now) (sink c.run_lines-result.new.writer) meant c.run_lines-result.result) is c.run_lines-result.ensures
