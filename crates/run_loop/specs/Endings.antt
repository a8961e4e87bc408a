-- How a job ended, by all that was done for it.
use Rattle.std.specs.Prelude.{◌≡◌, ℕ, ◌⊎◌, List, [], ◌∷◌}
use Rattle.cache_trait.specs.CacheCalls.{CacheCall}
use Rattle.cache_trait.specs.CacheCalls.CacheCall.{withdraws, finds_strange_ticket}
use Rattle.bundle.specs.Lease.{Ticketed}
use Rattle.exchange.specs.declared.job.Job.{Job}
use Rattle.exchange.specs.declared.job.Prepared.{Prepared}
use Rattle.exchange.specs.declared.done.Done.{Done}
use Rattle.exchange.specs.declared.done.Done.TheVariants.{Bad}
use Rattle.exchange.specs.declared.done.Fault.TheVariants.{Cancelled, Memory}
use Rattle.exchange.specs.declared.state.State.{State}
use Rattle.exchange.specs.declared.state.State.TheVariants.{Asking, Waiting, Dialling, Sending, Reading, Finished}
use Rattle.exchange.specs.Worlds.{World}
use Rattle.exchange.specs.Standing.{StandsAt, Ends, Drops}
use Rattle.exchange.specs.Carrying.{IsForJob}

-- a wait was ended at a moment that the clock told, or its ticket was taken for a stranger
abbrev pub LeavesQueue : {W : Type 0} → World W → Ticketed → CacheCall W → Type 0
LeavesQueue world ticket call = ((moment : ℕ) × world.tells moment × (call ≡ withdraws ticket moment)) ⊎ (call ≡ finds_strange_ticket ticket)

-- the last call did that to what a transfer had where it stood
pub record GivesUp {W : Type 0} (world : World W) (p : Prepared) (state : State W) (GivesIt : CacheCall W → Type 0) (calls : List (CacheCall W)) : Type 0 where
  pub last : CacheCall W
  pub earlier : List (CacheCall W)
  pub all : calls ≡ last ∷ earlier
  pub gives : GivesIt last
  pub stood : StandsAt world p state earlier

-- a transfer was cancelled where it stood: it left the queue, or its lease was abandoned; before it asked, it had neither
abbrev pub IsCancelledAt : {W : Type 0} → World W → Prepared → State W → List (CacheCall W) → Type 0
IsCancelledAt world p Asking calls = StandsAt world p Asking calls
IsCancelledAt world p (Waiting ticket) calls = GivesUp world p (Waiting ticket) (LeavesQueue world ticket) calls
IsCancelledAt world p (Dialling lease) calls = GivesUp world p (Dialling lease) (Drops world lease) calls
IsCancelledAt world p (Sending lease sent) calls = GivesUp world p (Sending lease sent) (Drops world lease) calls
IsCancelledAt world p (Reading lease) calls = GivesUp world p (Reading lease) (Drops world lease) calls
IsCancelledAt world p (Finished done) calls = ⊥

-- a transfer of that job was cancelled
pub record IsCancelled {W : Type 0} (world : World W) (job : Job) (calls : List (CacheCall W)) : Type 0 where
  pub parts : Prepared
  pub its : IsForJob job parts
  pub state : State W
  pub cancelled : IsCancelledAt world parts state calls

-- a transfer of that job ended so
pub record HasEndedSo {W : Type 0} (world : World W) (job : Job) (done : Done) (calls : List (CacheCall W)) : Type 0 where
  pub parts : Prepared
  pub its : IsForJob job parts
  pub ends : Ends world parts done calls

-- A job ended as its transfer did. If the job may be stopped, its transfer was cancelled, or nothing was done for the job;
-- nor was anything if no memory was there to begin it.
abbrev pub EndsFor : {W : Type 0} → World W → Type 0 → Job → Done → List (CacheCall W) → Type 0
EndsFor world may_stop job (Bad Cancelled) calls = may_stop × ((calls ≡ []) ⊎ IsCancelled world job calls)
EndsFor world may_stop job (Bad Memory) calls = calls ≡ []
EndsFor world may_stop job done calls = HasEndedSo world job done calls
