use Rattle.script_engine.proofs.Traces.{untraced}
use Rattle.script_engine.proofs.script.untraced_outputs_are_transcripts.Goals as goal

pub returns : goal.returns
returns c = untraced
