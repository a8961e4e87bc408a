-- What took the results of jobs.
use Rattle.std.specs.Prelude.{◌≡◌, ℕ, List, [], ◌∷◌, map}
use Rattle.exchange.specs.declared.done.Done.{Done}
use Rattle.run_loop.specs.declared.results.Span.{Span}

-- the result of a job: its number, how it ended, and when it was under way
pub record JobResult : Type 0 where
  pub number : ℕ
  pub done : Done
  pub span : Span

abbrev pub job_result : ℕ → Done → Span → JobResult
job_result number done span = record { number = number; done = done; span = span }

-- how the job of each number ended
abbrev pub ends_of : List JobResult → List (ℕ × Done)
ends_of told = map (λ (result : JobResult). (result.number, result.done)) told

-- from the one time to the other these results were taken, the newest first, and nothing else was
abbrev pub AllTaken : {R : Type 0} → (R → R → ℕ → Done → Span → Type 0) → R → R → List JobResult → Type 0
AllTaken took old new [] = new ≡ old
AllTaken {R} took old new (result ∷ earlier) = (middle : R) × AllTaken took old middle earlier × took middle new result.number result.done result.span

-- from the one time to the other some results were taken, or none, and nothing else was
abbrev pub TakesSome : {R : Type 0} → (R → R → ℕ → Done → Span → Type 0) → R → R → Type 0
TakesSome took old new = (told : List JobResult) × AllTaken took old new told
