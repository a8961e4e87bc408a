use Rattle.std.proofs.Common.{arith}
use Rattle.load_figures.proofs.BucketLemmas.{in_bucket_by}
use Rattle.load_figures.proofs.buckets.bucket_of.Goals as goal

pub overflow_add-result : goal.overflow_add-result
overflow_add-result c = omega (arith, (in_bucket_by c.args.value c.saturating_sub-bits_untold.result (omega arith) c.saturating_sub-bits_untold.ensures).there)

pub returns-clause-is_in : goal.returns-clause-is_in
returns-clause-is_in c = in_bucket_by c.args.value c.saturating_sub-bits_untold.result (omega arith) c.saturating_sub-bits_untold.ensures
