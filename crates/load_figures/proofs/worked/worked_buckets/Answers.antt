use Rattle.std.proofs.Common.{refl}
use lib.Count.{count_leading_zeros}
use Rattle.load_figures.proofs.worked.worked_buckets.Goals as goal

pub returns : goal.returns
unfolding count_leading_zeros
returns c = refl
