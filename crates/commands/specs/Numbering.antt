-- The numbers of a load's sites.
use Rattle.std.specs.Prelude.{◌+◌, ◌≤◌, ℕ, max, List, [], ◌∷◌}
use Rattle.std.specs.Coded.{×_prop, le_prop, Unit-prop}
use Rattle.exchange.specs.declared.job.Job.{Job}

-- the sites of jobs are numbered in the order in which the jobs name them first, where `count` sites were named before
abbrev pub AreNumbered : ℕ → List Job → Type 0
AreNumbered count [] = Unit {0}
AreNumbered count (job ∷ jobs) = (job.site ≤ count) × AreNumbered (max count (job.site + 1)) jobs

pub numbered_prop : (count : ℕ) (jobs : List Job) → IsProp (AreNumbered count jobs)
numbered_prop count [] = Unit-prop
numbered_prop count (job ∷ jobs) = ×_prop le_prop (numbered_prop (max count (job.site + 1)) jobs)
