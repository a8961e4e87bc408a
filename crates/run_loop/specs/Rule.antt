-- The word that numbers are drawn from, the seats that draw, and the rule that ties them.
use Rattle.std.specs.Prelude.{◌≡◌, ℕ, ◌+◌, ◌-◌, ◌^◌, ◌<◌, ◌≤◌, if◌then◌else◌, nat_lt, List, [], ◌∷◌, ◌++◌, length, slice_index}
use Rattle.std.specs.List.{sum_by, All}
use mathlib.Core.Option.{some}
use lib.ListN.{get_elem?}
use Rattle.atomic_table.specs.Table.{State, Me}
use Rattle.atomic_table.specs.Seated.{TableId}
use Rattle.budget.specs.Words.{whole}
use Rattle.run_loop.specs.declared.job_draws.Drawing.{Drawing}
use Rattle.run_loop.specs.Draws.{Drawn, times, AreFirst}

abbrev pub drawing : ℕ → ℕ → List ℕ → ℕ → Drawing
drawing share jobs drawn past = record { share = share; jobs = jobs; drawn = drawn; past = past }

abbrev pub first_drawing : ℕ → Drawing
first_drawing jobs = drawing whole jobs [] 0

-- A draw: the number of a job, or a number past the jobs.
abbrev pub with_job : ℕ → Drawing → Drawing
with_job number v = drawing v.share v.jobs (v.drawn ++ number ∷ []) v.past

abbrev pub with_past : Drawing → Drawing
with_past v = drawing v.share v.jobs v.drawn (v.past + 1)

-- A split hands one unit of share to the new seat, which has drawn nothing.
abbrev pub less_one_unit : Drawing → Drawing
less_one_unit v = drawing (v.share - 1) v.jobs v.drawn v.past

abbrev pub one_unit : Drawing → Drawing
one_unit v = drawing 1 v.jobs [] 0

-- A join adds up, and leaves the second seat nothing.
abbrev pub both_drew : Drawing → Drawing → Drawing
both_drew v w = drawing (v.share + w.share) v.jobs (v.drawn ++ w.drawn) (v.past + w.past)

abbrev pub no_drawing : Drawing
no_drawing = drawing 0 0 [] 0

abbrev pub share_of : Drawing → ℕ
share_of v = v.share

abbrev pub past_of : Drawing → ℕ
past_of v = v.past

abbrev pub count_of : Drawing → ℕ
count_of v = length v.drawn

abbrev pub times_of : ℕ → Drawing → ℕ
times_of number v = times number v.drawn

-- A seat with a share knows how many jobs there are, one without has drawn nothing, and none drew more
-- numbers past the jobs than it has units of share.
pub record IsDrawing (jobs : ℕ) (v : Drawing) : Type 0 where
  pub same_jobs : 0 < v.share → v.jobs ≡ jobs
  pub nothing : v.share ≡ 0 → v.drawn ≡ []
  pub within : v.past ≤ v.share

abbrev pub AreDrawings : ℕ → List Drawing → Type 0
AreDrawings jobs views = (seat : ℕ) (v : Drawing) → get_elem? views seat ≡ some v → IsDrawing jobs v

-- Between any two steps: the word is the number of all draws. The first jobs were drawn, each once, over all
-- seats, and numbers past the jobs only after all of them. The shares make up the whole.
pub record IsClaim (jobs : ℕ) (words : List ℕ) (views : List Drawing) : Type 0 where
  pub one_word : length words ≡ 1
  pub counted : slice_index words 0 ≡ sum_by count_of views + sum_by past_of views
  pub once : (number : ℕ) → sum_by (times_of number) views ≡ if nat_lt number (sum_by count_of views) then 1 else 0
  pub within : sum_by count_of views ≤ jobs
  pub all : 0 < sum_by past_of views → sum_by count_of views ≡ jobs
  pub shares : sum_by share_of views ≡ whole
  pub seats : AreDrawings jobs views

abbrev pub KeepsClaim : ℕ → State (Unit {0}) Drawing → Type 0
KeepsClaim jobs s = IsClaim jobs s.words s.views

abbrev pub Sitter : Type 0
Sitter = Me (Unit {0}) Drawing

-- what a draw tells: the number found is a job's, or past the jobs, and above all jobs that the seat drew
pub record DrawsNumber (before : Sitter) (found : ℕ) (after : Sitter) : Type 0 where
  pub job : found < before.0.jobs → after ≡ (with_job found before.0, before.1)
  pub past : before.0.jobs ≤ found → after ≡ (with_past before.0, before.1)
  pub above : All (λ number. number < found) before.0.drawn

-- what a load tells the seat that has the whole share
pub record ReadsAll (before : Sitter) (found : ℕ) (after : Sitter) : Type 0 where
  pub same : after ≡ before
  pub word : found ≡ length before.0.drawn + before.0.past
  pub once : AreFirst (length before.0.drawn) before.0.drawn
  pub within : length before.0.drawn ≤ before.0.jobs
  pub all : 0 < before.0.past → length before.0.drawn ≡ before.0.jobs

-- what a seat shows its owner
abbrev pub shown : TableId → Drawing → Drawn
shown table v = record { claim = record { table = table; jobs = v.jobs }; share = v.share; drawn = v.drawn; past = v.past }

-- the table of a claim has one word, and was told the number of jobs
pub record IsClaimTable (words told jobs : ℕ) : Type 0 where
  pub one_word : words ≡ 1
  pub told_jobs : told ≡ jobs
  pub fits : told < 2 ^ 63

-- whoever has a seat has a share, and no slot
pub record IsClaimSeat (me : Sitter) : Type 0 where
  pub some_share : 0 < me.0.share
  pub bare : me.1 ≡ []
