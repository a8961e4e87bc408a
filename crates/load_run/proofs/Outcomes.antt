-- Outcomes of loads.
use Rattle.std.proofs.Common.{◌≡◌, ◌⊎◌, ℕ, List, [], length, refl, inl, inr, Result, Ok, Err}
use Rattle.std.specs.Prelude.{◌≢◌, IfOk}
use Rattle.exchange.specs.Worlds.{World}
use Rattle.load_run.specs.LoadJobs.{AsksOwn}
use Rattle.load_run.specs.LoadRuns.{IsUnknownHost, ReportsLoad, ReportsRun}
use Rattle.load_run.specs.declared.load.outcome.LoadOutcome.{LoadOutcome}
use Rattle.commands.specs.declared.load_plan.LoadPlan.{LoadPlan}

module _ {W E : Type 0} (world : World W) where
  -- a load of the plan's URLs
  pub of_urls : (plan : LoadPlan) (r : Result LoadOutcome E) → plan.urls.items ≢ [] → IfOk r (λ outcome. IsUnknownHost plan outcome ⊎ ReportsRun world plan outcome) → IfOk r (ReportsLoad world plan)
  of_urls plan (Ok outcome) some ended = record { used = plan; used_is = inl (some, refl); ended = ended }
  of_urls plan (Err failure) some ended = tt

  -- a load without URLs, which requests its own server
  pub of_own : (given used : LoadPlan) (ports : List ℕ) (r : Result LoadOutcome E) → given.urls.items ≡ [] → length ports ≡ given.options.sites → AsksOwn ports given used → IfOk r (λ outcome. IsUnknownHost used outcome ⊎ ReportsRun world used outcome)
      → IfOk r (ReportsLoad world given)
  of_own given used ports (Ok outcome) none count asks ended = record { used = used; used_is = inr (none, ports, count, asks); ended = ended }
  of_own given used ports (Err failure) none count asks ended = tt
