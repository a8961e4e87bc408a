use Rattle.std.proofs.Common.{arith}
use Rattle.load_figures.proofs.Folds.{all_folded}
use Rattle.load_figures.proofs.intervals.fold_items.Goals as goal

pub returns : goal.returns
returns c = all_folded c.args.items.now c.loop-half.items c.loop-half.half c.requires (omega (arith, c.requires)) c.loop-half.invariant
