use Rattle.std.proofs.Common.{ap, sym}
use Rattle.std.specs.List.{list_all}
use Rattle.clap.specs.Words.{found_of, rows_of}
use Rattle.command_line.specs.LoadPlans.{leaves_plain}
use Rattle.command_line.proofs.load_planning.is_plain.Goals as goal

pub loop-option-init : goal.loop-option-init
loop-option-init c = ap (list_all (leaves_plain (rows_of (found_of c.args.given.now)))) (sym c.load_options-options.ensures)
