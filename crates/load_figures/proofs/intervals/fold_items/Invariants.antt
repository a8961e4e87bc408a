use Rattle.load_figures.proofs.Folds.{HalfFolded}
use Rattle.load_figures.proofs.intervals.fold_items.Given as goal

abbrev pub invariant-loop-half : goal.invariant-loop-half
invariant-loop-half l = HalfFolded l.half l.fn.items l.items
