-- How far a run over one cache is: which jobs were drawn, which are under way, and which have results.
use Rattle.std.specs.Prelude.{◌≡◌, ℕ, ◌+◌, ◌≤◌, List, [], map, IsSomeAnd}
use Rattle.std.specs.List.{All}
use Rattle.run_loop.specs.Draws.{times}
use Rattle.cache_trait.specs.CacheCalls.{CacheCall, AllDone}
use Rattle.exchange.specs.declared.job.Job.{Job}
use Rattle.exchange.specs.declared.done.Done.{Done}
use Rattle.exchange.specs.Transfers.{TransferShown}
use Rattle.exchange.specs.Worlds.{World}
use Rattle.exchange.specs.Standing.{StandsAt}
use Rattle.exchange.specs.Carrying.{IsForJob}
use Rattle.run_loop.specs.LoopCalls.{calls_of, calls_for}
use Rattle.run_loop.specs.Endings.{EndsFor}

-- the numbers of the jobs that have these results
abbrev pub numbers_of : List (ℕ × Done) → List ℕ
numbers_of results = map (λ (result : ℕ × Done). result.0) results

-- a transfer bears the number of its job
abbrev pub number_of : {W : Type 0} → TransferShown W → ℕ
number_of transfer = transfer.parts.want.transfer

abbrev pub numbers_under_way : {W : Type 0} → List (TransferShown W) → List ℕ
numbers_under_way {W} transfers = map (number_of {W = W}) transfers

-- a transfer of that job stands where all that was done for the job led
pub record IsUnderWay {W : Type 0} (world : World W) (job : Job) (number : ℕ) (all : List (ℕ × CacheCall W)) (transfer : TransferShown W) : Type 0 where
  pub its : IsForJob job transfer.parts
  pub stands : IsSomeAnd transfer.state (λ state. StandsAt world transfer.parts state (calls_for number all))

abbrev pub AreUnderWay : {W : Type 0} → World W → (ℕ → Job) → List (ℕ × CacheCall W) → List (TransferShown W) → Type 0
AreUnderWay {W} world job_at all transfers = All (λ (t : TransferShown W). IsUnderWay world (job_at (number_of t)) (number_of t) all t) transfers

-- all that was done for the job of that number led to that end
abbrev pub IsCarriedOut : {W : Type 0} → World W → (ℕ → Type 0) → (ℕ → Job) → List (ℕ × CacheCall W) → ℕ → Done → Type 0
IsCarriedOut world may_stop job_at all number done = EndsFor world (may_stop number) (job_at number) done (calls_for number all)

abbrev pub AreCarriedOut : {W : Type 0} → World W → (ℕ → Type 0) → (ℕ → Job) → List (ℕ × CacheCall W) → List (ℕ × Done) → Type 0
AreCarriedOut world may_stop job_at all results = All (λ (result : ℕ × Done). IsCarriedOut world may_stop job_at all result.0 result.1) results

-- There is one list of all that was done at the cache since the run began, each call with the number of its job. By what
-- it has for each job, the jobs under way stand, and those with results have ended. Each job that was drawn is under way
-- or has a result, once; no number was drawn twice, and nothing was done for a job that was not drawn.
pub record IsRunning {C W : Type 0} (did : C → C → CacheCall W → Type 0) (world : World W) (may_stop : ℕ → Type 0) (job_at : ℕ → Job) (first cache : C) (drawn : List ℕ) (transfers : List (TransferShown W)) (results : List (ℕ × Done)) : Type 0 where
  pub all : List (ℕ × CacheCall W)
  pub done : AllDone did first cache (calls_of all)
  pub under_way : AreUnderWay world job_at all transfers
  pub carried : AreCarriedOut world may_stop job_at all results
  pub counted : (number : ℕ) → times number drawn ≡ times number (numbers_of results) + times number (numbers_under_way transfers)
  pub once : (number : ℕ) → times number drawn ≤ 1
  pub none_else : (number : ℕ) → times number drawn ≡ 0 → calls_for number all ≡ []
