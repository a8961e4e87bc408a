-- The numbers of jobs, which threads draw: what each call of a claim tells.
use Rattle.std.specs.Prelude.{◌≡◌, ℕ, ◌+◌, ◌<◌, ◌==◌, if◌then◌else◌, nat_lt, count_by, List, [], ◌∷◌, ◌++◌, Option, Some, None}
use Rattle.std.specs.List.{All}
use Rattle.atomic_table.specs.Seated.{TableId}
use Rattle.budget.specs.Words.{whole}

-- a claim: which table it is, and how many jobs there are
pub record Jobs : Type 0 where
  pub table : TableId
  pub jobs : ℕ

-- a seat: at which claim, its share, the numbers of the jobs that it drew, in this order, and how many
-- numbers past the jobs it drew
pub record Drawn : Type 0 where
  pub claim : Jobs
  pub share : ℕ
  pub drawn : List ℕ
  pub past : ℕ

-- how often a number stands in a list
abbrev pub times : ℕ → List ℕ → ℕ
times number numbers = count_by (λ n. number == n) numbers

-- the first numbers, from 0 on, as many as the count: each stands in the list once, and no other does
abbrev pub AreFirst : ℕ → List ℕ → Type 0
AreFirst count numbers = (number : ℕ) → times number numbers ≡ if nat_lt number count then 1 else 0

-- a seat that has drawn nothing
abbrev pub nothing_drawn : Jobs → ℕ → Drawn
nothing_drawn claim share = record { claim = claim; share = share; drawn = []; past = 0 }

abbrev pub first_seat : Jobs → Drawn
first_seat claim = nothing_drawn claim whole

abbrev pub new_seat : Jobs → Drawn
new_seat claim = nothing_drawn claim 1

-- A draw answers the number of a job, which is above all that the seat drew before, or nothing, as the number is
-- past the jobs.
abbrev pub Draws : Drawn → Option ℕ → Drawn → Type 0
Draws old (Some number) new =
    (number < old.claim.jobs) × All (λ n. n < number) old.drawn × (new ≡ record old { drawn = old.drawn ++ number ∷ [] })
Draws old None new = new ≡ record old { past = old.past + 1 }

-- what two seats have together
abbrev pub together : Drawn → Drawn → Drawn
together seat other = record seat { share = seat.share + other.share; drawn = seat.drawn ++ other.drawn; past = seat.past + other.past }
