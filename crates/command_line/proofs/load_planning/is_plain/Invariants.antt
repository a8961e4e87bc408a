use Rattle.std.proofs.Common.{◌≡◌, drop, map}
use Rattle.clap.specs.Words.{found_of, rows_of}
use Rattle.std.specs.List.{list_all}
use Rattle.command_line.specs.LoadPlans.{is_plain, leaves_plain}
use Rattle.command_line.specs.OptionTable.{facts_of}
use Rattle.command_line.proofs.load_planning.is_plain.Given as goal

abbrev pub invariant-loop-option : goal.invariant-loop-option
invariant-loop-option l = is_plain (rows_of (found_of l.given)) ≡ list_all (leaves_plain (rows_of (found_of l.given))) (map facts_of (drop l.option-index l.options))
