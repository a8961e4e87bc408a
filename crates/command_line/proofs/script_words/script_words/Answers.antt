use Rattle.std.proofs.Common.{◌∙◌, ap}
use Rattle.command_line.specs.Inputs.{asked_file}
use Rattle.command_line.proofs.script_words.script_words.Goals as goal

pub returns : goal.returns
returns c = record {
  traced = c.flag.ensures;
  picture = c.in_ok-text.ensures;
  file = c.in_ok-input_of.ensures ∙ ap asked_file c.text_of.ensures;
}
