use Rattle.load_figures.proofs.BucketLemmas.{in_its_bucket, narrow, next_lowest}
use Rattle.load_figures.proofs.laws.buckets_divide_all_values.Goals as goal

pub returns-clause-in_their_buckets : goal.returns-clause-in_their_buckets
returns-clause-in_their_buckets c = in_its_bucket

pub returns-clause-apart : goal.returns-clause-apart
returns-clause-apart c = next_lowest

pub returns-clause-narrow : goal.returns-clause-narrow
returns-clause-narrow c = narrow
