use Rattle.load_figures.proofs.BucketLemmas.{lowest_shifted}
use Rattle.load_figures.proofs.buckets.lowest_of.Goals as goal

pub returns : goal.returns
returns c = lowest_shifted c.args.bucket c.bits_untold_in-bits_untold.result c.requires c.bits_untold_in-bits_untold.ensures
