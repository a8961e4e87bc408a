-- Results with spans between readings of a timer.
use Rattle.std.proofs.Common.{ℕ, zero, suc, List, [], ◌∷◌, Option, Some, None, IfSome, get_or, slice_index_or}
use Rattle.std.specs.Prelude.{⊤}
use Rattle.std.proofs.lemmas.List.Elements.{All-head, All-tail}
use Rattle.exchange.specs.declared.done.Done.{Done}
use Rattle.run_loop.specs.Moments.{AreReadings, TakesTimed}
use Rattle.run_loop.specs.Taking.{AllTaken, JobResult}
use Rattle.run_loop.specs.declared.results.Span.{Span}

-- results that were taken with such spans were taken
pub untimed : {R : Type 0} (is_reading : ℕ → Type 0) (took : R → R → ℕ → Done → Span → Type 0) (old new : R) (results : List JobResult) → AllTaken (TakesTimed is_reading took) old new results → AllTaken took old new results
untimed is_reading took old new [] taken = taken
untimed is_reading took old new (result ∷ earlier) taken = (taken.0, untimed is_reading took old taken.0 earlier taken.1, taken.2.0)

-- the moment at a place is a reading, if there is one
pub reading_at : (is_reading : ℕ → Type 0) (moments : List (Option ℕ)) (place : ℕ) → AreReadings is_reading moments → IfSome (slice_index_or moments place None) is_reading
reading_at is_reading [] place each = tt
reading_at is_reading (moment ∷ moments) zero each = All-head (λ (m : Option ℕ). IfSome m is_reading) moment moments each
reading_at is_reading (moment ∷ moments) (suc place) each = reading_at is_reading moments place (All-tail (λ (m : Option ℕ). IfSome m is_reading) moment moments each)

-- any moments are readings of a timer that may return any moment
any_reading : (moment : Option ℕ) → IfSome moment (λ m. ⊤)
any_reading (Some m) = tt
any_reading None = tt

pub all_readings : (moments : List (Option ℕ)) → AreReadings (λ m. ⊤) moments
all_readings moments = λ k d within. any_reading (get_or moments k d)
