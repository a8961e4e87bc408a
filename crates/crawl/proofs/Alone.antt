-- Runs that begin with nothing in flight.
use Rattle.std.proofs.Common.{◌≡◌, ◌+◌, ◌-◌, ℕ, List, [], ◌∷◌, length, refl, ap, sym, ◌∙◌, subst, arith}
use Rattle.std.specs.Prelude.{⊤, slice_index_or, replicate, Option, None, IfSome}
use Rattle.std.proofs.lemmas.List.Elements.{All-nil, All-replicate}
use Rattle.bundle.specs.Seats.{Tables}
use Rattle.cache_trait.specs.CacheCalls.{CacheCall}
use Rattle.exchange.specs.declared.done.Done.{Done}
use Rattle.exchange.specs.declared.job.Job.{Job}
use Rattle.transfer_slab.specs.Slabs.{AreKept, IsKept, transfers_in}
use Rattle.exchange.specs.Transfers.{TransferShown}
use Rattle.exchange.specs.Worlds.{World}
use Rattle.run_loop.specs.Going.{IsRunFrom, RunsOn, RunsToEnd, may_stop_at, point, rules_of}
use Rattle.run_loop.specs.Moments.{AreReadings, TakesTimed}
use Rattle.run_loop.specs.Draws.{times}
use Rattle.run_loop.specs.Running.{AreUnderWay, IsRunning, IsUnderWay, numbers_under_way}
use Rattle.run_loop.specs.Taking.{ends_of}
use Rattle.run_loop.specs.declared.results.Span.{Span}
use Rattle.run_loop.specs.declared.run_end.RunEnd.{RunEnd}
use Rattle.run_loop.specs.declared.run_end.RunEnd.TheVariants.{Complete, Stopped, TurnFailed, BrokenOff}
use Rattle.run_loop.proofs.Timed.{untimed}
use Rattle.crawl.specs.Alone.{CanGoOn, RanAlone}
use Rattle.crawl.specs.Results.{TakesAll, first_number, job_of}

-- a list is empty or not
empty_or_not : {X : Type 0} (l : List X) (A : Type 0) → (l ≡ [] → A) → ((l ≡ [] → ⊥) → A) → A
empty_or_not [] A empty other = empty refl
empty_or_not (x ∷ l) A empty other = other (λ same. absurd (omega (arith, ap length same)))

-- the job of each number
pub jobs_by_number : (all jobs : List Job) (from : ℕ) (one other : Job) → all ≡ jobs → from ≡ first_number jobs → one ≡ other → (λ number. slice_index_or all (number - from) one) ≡ job_of jobs (first_number jobs) other
jobs_by_number all jobs from one other are first is =
    ap (λ (l : List Job). (λ number. slice_index_or l (number - from) one)) are ∙ ap (λ f. (λ number. slice_index_or jobs (number - f) one)) first ∙ ap (λ (j : Job). (λ number. slice_index_or jobs (number - first_number jobs) j)) is

-- each job may be stopped, whichever way a run ends
may_all : (end : RunEnd) → may_stop_at end (λ number. ⊤) ≡ (λ number. ⊤)
may_all Complete = refl
may_all Stopped = refl
may_all TurnFailed = refl
may_all BrokenOff = refl

module _ {C W R : Type 0} (did : C → C → CacheCall W → Type 0) (world : World W) (is_reading : ℕ → Type 0) (took : R → R → ℕ → Done → Span → Type 0) (job_at : ℕ → Job) where
  -- nothing was done yet
  none_running : (cache : C) (slots : List (Option (TransferShown W))) → transfers_in slots ≡ [] → IsRunning did world (λ number. ⊤) job_at cache cache [] (transfers_in slots) []
  none_running cache slots none = record {
    all = [];
    done = refl;
    under_way = subst (AreUnderWay world job_at []) (sym none) (All-nil (λ (t : TransferShown W). IsUnderWay world (job_at t.parts.want.transfer) t.parts.want.transfer [] t));
    carried = λ k d below. absurd (omega (arith, below));
    counted = λ number. subst (λ (l : List (TransferShown W)). 0 ≡ 0 + times number (numbers_under_way l)) (sym none) refl;
    once = λ number. omega arith;
    none_else = λ number none_drawn. refl;
  }

  nothing_ran : (cache : C) (slots : List (Option (TransferShown W))) (results : R) → transfers_in slots ≡ [] → IsRunFrom (rules_of did world (λ number. ⊤) job_at (TakesTimed is_reading took)) cache results (point cache [] slots results)
  nothing_ran cache slots results none = record { told = []; taken = refl; running = none_running cache slots none }

  module _ (other : Job) (jobs : List Job) (are : job_at ≡ job_of jobs (first_number jobs) other) where
    -- a part of a run takes results
    pub takes_alone : (old new : C) (slots left : List (Option (TransferShown W))) (was is : R) (before drawn : List ℕ) → before ≡ []
        → RunsOn (rules_of did world (λ number. ⊤) job_at (TakesTimed is_reading took)) (point old before slots was) (point new drawn left is) → TakesAll (RanAlone did world other old slots left jobs) took was is
    takes_alone old new slots left was is before drawn none_drawn runs =
        empty_or_not (transfers_in slots) (TakesAll (RanAlone did world other old slots left jobs) took was is)
        (λ none.
        let from = runs.goes old was (subst (λ (l : List ℕ). IsRunFrom (rules_of did world (λ number. ⊤) job_at (TakesTimed is_reading took)) old was (point old l slots was)) (sym none_drawn) (nothing_ran old slots was none)) in (
          from.told,
          record { alone = λ empty. (new, drawn, subst (λ (at : ℕ → Job). IsRunning did world (λ number. ⊤) at old new drawn (transfers_in left) (ends_of from.told)) are from.running) },
          untimed is_reading took was is from.told from.taken,
        ))
        (λ some. (runs.takes.0, record { alone = λ empty. absurd (some empty) }, untimed is_reading took was is runs.takes.0 runs.takes.1))

    -- so does its end
    pub ends_alone : (end : RunEnd) (old new : C) (slots : List (Option (TransferShown W))) (was is : R) (before drawn : List ℕ) → before ≡ []
        → RunsToEnd end (rules_of did world (λ number. ⊤) job_at (TakesTimed is_reading took)) (point old before slots was) (point new drawn [] is) → TakesAll (RanAlone did world other old slots [] jobs) took was is
    ends_alone end old new slots was is before drawn none_drawn runs =
        empty_or_not (transfers_in slots) (TakesAll (RanAlone did world other old slots [] jobs) took was is)
        (λ none.
        let from = runs.ends old was (subst (λ (l : List ℕ). IsRunFrom (rules_of did world (λ number. ⊤) job_at (TakesTimed is_reading took)) old was (point old l slots was)) (sym none_drawn) (nothing_ran old slots was none)) in
        let running = subst (λ (may : ℕ → Type 0). IsRunning did world may job_at old new drawn [] (ends_of from.told)) (may_all end) from.running in (
          from.told,
          record { alone = λ empty. (new, drawn, subst (λ (at : ℕ → Job). IsRunning did world (λ number. ⊤) at old new drawn [] (ends_of from.told)) are running) },
          untimed is_reading took was is from.told from.taken,
        ))
        (λ some. (runs.takes.0, record { alone = λ empty. absurd (some empty) }, untimed is_reading took was is runs.takes.0 runs.takes.1))

    -- nothing was done
    pub none_alone : (cache : C) (slots : List (Option (TransferShown W))) (results : R) → TakesAll (RanAlone did world other cache slots slots jobs) took results results
    none_alone cache slots results = (
      [],
      record { alone = λ none. (cache, [], subst (λ (at : ℕ → Job). IsRunning did world (λ number. ⊤) at cache cache [] (transfers_in slots) []) are (none_running cache slots none)) },
      refl,
    )

-- transfers can continue at equal tables
pub goes_on_at : {W : Type 0} (world : World W) (is_reading : ℕ → Type 0) (was is : List Tables) (slots : List (Option (TransferShown W))) (moments : List (Option ℕ)) → is ≡ was → CanGoOn world is_reading was slots moments → CanGoOn world is_reading is slots moments
goes_on_at world is_reading was is slots moments same can = subst (λ (home : List Tables). CanGoOn world is_reading home slots moments) (sym same) can

-- nothing was begun yet
pub none_begun : {W : Type 0} (world : World W) (is_reading : ℕ → Type 0) (home : List Tables) (slots : List (Option (TransferShown W))) (moments : List (Option ℕ)) (places : ℕ) → slots ≡ [] → moments ≡ replicate places None → CanGoOn world is_reading home slots moments
none_begun {W} world is_reading home slots moments places none fresh = record {
  kept = subst (AreKept world home) (sym none) (All-nil (λ (slot : Option (TransferShown W)). IfSome slot (IsKept world home)));
  readings = subst (AreReadings is_reading) (sym fresh) (All-replicate (λ (moment : Option ℕ). IfSome moment is_reading) places None tt);
}
