use Rattle.std.proofs.Common.{◌≡◌, false, drop, map}
use Rattle.clap.specs.Words.{app_of, new_app}
use Rattle.clap.specs.declared.builder.command.Command.TheViews.{out-Command}
use Rattle.command_line.specs.OptionTable.{facts_of}
use Rattle.command_line.specs.Options.{with_rules}
use Rattle.command_line.proofs.words.subcommand.Given as goal

abbrev pub invariant-loop-option : goal.invariant-loop-option
invariant-loop-option l = record {
  app : with_rules (new_app l.fn.name) (map facts_of l.options) ≡ with_rules (app_of l.command) (map facts_of (drop l.option-index l.options));
  local : (out-Command l.command).has_globals ≡ false;
}
