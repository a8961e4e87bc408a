-- Jobs that request URLs in turn.
use Rattle.std.specs.Prelude.{◌+◌, ◌*◌, ◌%◌, ℕ, List, length, slice_index_or}
use Rattle.exchange.specs.Answers.{moved_job}
use Rattle.exchange.specs.declared.job.Job.{Job}

-- the worker's host of a site, if each site has `each` consecutive hosts
abbrev pub host_for : ℕ → ℕ → ℕ → ℕ
host_for each worker site = site * each + worker % each

-- job K does what is to be done for URL K modulo their number, as transfer K, at the worker's host of that URL's site; the
-- other job stands where there is no URL
abbrev pub in_turn : ℕ → List Job → Job → ℕ → ℕ → Job
in_turn each urls otherwise worker number =
    let job = slice_index_or urls (number % length urls) otherwise in
    moved_job (host_for each worker job.site) number job
