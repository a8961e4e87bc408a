-- Parts of a crawl, as runs of its loop.
use Rattle.std.specs.Prelude.{◌≡◌, ⊤, ℕ, List, [], Option}
use Rattle.bundle.specs.Seats.{Tables}
use Rattle.cache_trait.specs.CacheCalls.{CacheCall}
use Rattle.exchange.specs.declared.job.Job.{Job}
use Rattle.transfer_slab.specs.Slabs.{AreKept, transfers_in}
use Rattle.exchange.specs.Transfers.{TransferShown}
use Rattle.exchange.specs.Worlds.{World}
use Rattle.run_loop.specs.Moments.{AreReadings}
use Rattle.run_loop.specs.Running.{IsRunning}
use Rattle.run_loop.specs.Taking.{JobResult, ends_of}
use Rattle.crawl.specs.Results.{first_number, job_of}

-- each transfer in flight can continue, and the moments at which jobs began are readings of the clock
pub record CanGoOn {W : Type 0} (world : World W) (is_reading : ℕ → Type 0) (home : List Tables) (slots : List (Option (TransferShown W))) (moments : List (Option ℕ)) : Type 0 where
  pub kept : AreKept world home slots
  pub readings : AreReadings is_reading moments

-- if nothing was in flight before, a run of these jobs over the cache led to these results and these transfers in flight
pub record RanAlone {C W : Type 0} (did : C → C → CacheCall W → Type 0) (world : World W) (other : Job) (cache : C) (old new : List (Option (TransferShown W))) (jobs : List Job) (results : List JobResult) : Type 0 where
  pub alone : transfers_in old ≡ [] → (ran : C) × (drawn : List ℕ) × IsRunning did world (λ number. ⊤) (job_of jobs (first_number jobs) other) cache ran drawn (transfers_in new) (ends_of results)
