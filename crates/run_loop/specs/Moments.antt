-- The moments at which jobs begin and end, which are readings of a run's timer.
use Rattle.std.specs.Prelude.{ℕ, ◌≤◌, List, Option, IfSome}
use Rattle.std.specs.List.{All}
use Rattle.exchange.specs.declared.done.Done.{Done}
use Rattle.run_loop.specs.declared.results.Span.{Span}

-- each of these moments is a reading of the timer, where there is one
abbrev pub AreReadings : (ℕ → Type 0) → List (Option ℕ) → Type 0
AreReadings is_reading moments = All (λ (moment : Option ℕ). IfSome moment is_reading) moments

-- a job began and ended at readings of the timer, in this order
pub record IsTimed (is_reading : ℕ → Type 0) (span : Span) : Type 0 where
  pub began : is_reading span.began
  pub ended : is_reading span.ended
  pub order : span.began ≤ span.ended

-- a result was taken, with a span between two readings of the timer
abbrev pub TakesTimed : {R : Type 0} → (ℕ → Type 0) → (R → R → ℕ → Done → Span → Type 0) → R → R → ℕ → Done → Span → Type 0
TakesTimed is_reading took old new number done span = took old new number done span × IsTimed is_reading span
