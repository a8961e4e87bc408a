use Rattle.std.proofs.Common.{◌≡◌, drop, map}
use Rattle.clap.specs.Words.{found_of, rows_of}
use Rattle.command_line.specs.OptionTable.{facts_of}
use Rattle.command_line.specs.Options.{has_bad}
use Rattle.command_line.proofs.values.check_numbers.Given as goal

abbrev pub invariant-loop-option : goal.invariant-loop-option
invariant-loop-option l = has_bad (map facts_of l.options) (rows_of (found_of l.given)) ≡ has_bad (map facts_of (drop l.option-index l.options)) (rows_of (found_of l.given))
