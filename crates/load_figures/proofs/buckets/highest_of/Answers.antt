use Rattle.std.proofs.Common.{arith}
use Rattle.load_figures.proofs.BucketLemmas.{highest_fits, width_shifted}
use Rattle.load_figures.proofs.buckets.highest_of.Goals as goal

pub overflow_add-result : goal.overflow_add-result
overflow_add-result c = omega (arith, c.lowest_of.ensures, width_shifted c.args.bucket c.bits_untold_in.result c.requires c.bits_untold_in.ensures, highest_fits c.args.bucket c.requires)

pub returns : goal.returns
returns c = omega (arith, c.lowest_of.ensures, width_shifted c.args.bucket c.bits_untold_in.result c.requires c.bits_untold_in.ensures)
