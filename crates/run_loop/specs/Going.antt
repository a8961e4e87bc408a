-- How a run goes on over one cache, and how it ends.
use Rattle.std.specs.Prelude.{◌≡◌, ℕ, ◌<◌, List, [], ◌∷◌, ◌++◌, Option, sum_by, Bool, true, false, nat_le, if◌then◌else◌}
use Rattle.std.specs.List.{All}
use Rattle.streams.specs.RisingCounts.{Rises}
use Rattle.cache_trait.specs.CacheCalls.{CacheCall}
use Rattle.exchange.specs.declared.job.Job.{Job}
use Rattle.exchange.specs.declared.done.Done.{Done}
use Rattle.exchange.specs.Transfers.{TransferShown}
use Rattle.exchange.specs.Worlds.{World}
use Rattle.transfer_slab.specs.Slabs.{transfers_in, one_if_some}
use Rattle.run_loop.specs.declared.run_end.RunEnd.{RunEnd}
use Rattle.run_loop.specs.declared.run_end.RunEnd.TheVariants.{Complete, Stopped, TurnFailed, BrokenOff}
use Rattle.run_loop.specs.Running.{IsRunning}
use Rattle.run_loop.specs.Taking.{JobResult, AllTaken, TakesSome, ends_of}
use Rattle.run_loop.specs.declared.results.Span.{Span}

-- what a run goes by: what the cache did, what may be known of wires and clock, which jobs may be stopped, the job of each
-- number, and how results are taken
pub record Rules (C W R : Type 0) : Type 1 where
  pub did : C → C → CacheCall W → Type 0
  pub world : World W
  pub may_stop : ℕ → Type 0
  pub job_at : ℕ → Job
  pub took : R → R → ℕ → Done → Span → Type 0

abbrev pub rules_of : {C W R : Type 0} → (C → C → CacheCall W → Type 0) → World W → (ℕ → Type 0) → (ℕ → Job) → (R → R → ℕ → Done → Span → Type 0) → Rules C W R
rules_of did world may_stop job_at took = record { did = did; world = world; may_stop = may_stop; job_at = job_at; took = took }

-- how far a run is: its cache, the numbers that were drawn, the places of its slab, and what took its results
pub record Point (C W R : Type 0) : Type 0 where
  pub cache : C
  pub drawn : List ℕ
  pub slots : List (Option (TransferShown W))
  pub results : R

abbrev pub point : {C W R : Type 0} → C → List ℕ → List (Option (TransferShown W)) → R → Point C W R
point cache drawn slots results = record { cache = cache; drawn = drawn; slots = slots; results = results }

-- a run that began at that cache, when nothing was drawn and no result was taken, is there now
pub record IsRunFrom {C W R : Type 0} (rules : Rules C W R) (first : C) (begun : R) (now : Point C W R) : Type 0 where
  pub told : List JobResult
  pub taken : AllTaken rules.took begun now.results told
  pub running : IsRunning rules.did rules.world rules.may_stop rules.job_at first now.cache now.drawn (transfers_in now.slots) (ends_of told)

-- from there to there a run takes results, and goes on, whatever was done before
pub record RunsOn {C W R : Type 0} (rules : Rules C W R) (before after : Point C W R) : Type 0 where
  pub takes : TakesSome rules.took before.results after.results
  pub goes : (first : C) (begun : R) → IsRunFrom rules first begun before → IsRunFrom rules first begun after

-- whatever was drawn before, all below that number: once it is drawn too, the run goes on
abbrev pub RunsOnWith : {C W R : Type 0} → Rules C W R → ℕ → C → List (Option (TransferShown W)) → R → List (Option (TransferShown W)) → R → Type 0
RunsOnWith rules number cache slots results more told = (drawn : List ℕ) → All (λ n. n < number) drawn → RunsOn rules (point cache drawn slots results) (point cache (drawn ++ number ∷ []) more told)

-- which jobs may be stopped at a run's end: all if a turn failed, or the run was broken off
abbrev pub may_stop_at : RunEnd → (ℕ → Type 0) → ℕ → Type 0
may_stop_at TurnFailed may_stop number = Unit {0}
may_stop_at BrokenOff may_stop number = Unit {0}
may_stop_at _ may_stop number = may_stop number

abbrev pub rules_at : {C W R : Type 0} → RunEnd → Rules C W R → Rules C W R
rules_at end rules = record rules { may_stop = may_stop_at end rules.may_stop }

-- from there to there a run takes results, and ends so, whatever was done before
pub record RunsToEnd {C W R : Type 0} (end : RunEnd) (rules : Rules C W R) (before after : Point C W R) : Type 0 where
  pub takes : TakesSome rules.took before.results after.results
  pub ends : (first : C) (begun : R) → IsRunFrom rules first begun before → IsRunFrom (rules_at end rules) first begun after

-- the count of failed turns rises if a turn failed, and only then
abbrev pub TurnsAt : RunEnd → ℕ → ℕ → Type 0
TurnsAt TurnFailed old new = Rises old new
TurnsAt _ old new = new ≡ old

abbrev pub is_complete : RunEnd → Bool
is_complete Complete = true
is_complete _ = false

abbrev pub is_fault : RunEnd → Bool
is_fault TurnFailed = true
is_fault BrokenOff = true
is_fault _ = false

-- how bad it is to end so
abbrev pub badness : RunEnd → ℕ
badness Complete = 0
badness Stopped = 1
badness BrokenOff = 2
badness TurnFailed = 3

-- the worse of two ends
abbrev pub worse_end : RunEnd → RunEnd → RunEnd
worse_end end other = if nat_le (badness end) (badness other) then other else end

-- this holds of a run that is complete, this of one that isn't, and this of one that was stopped
abbrev pub IfComplete : RunEnd → Type 0 → Type 0
IfComplete Complete P = P
IfComplete _ P = Unit {0}

abbrev pub IfIncomplete : RunEnd → Type 0 → Type 0
IfIncomplete Complete P = Unit {0}
IfIncomplete _ P = P

abbrev pub IfStopped : RunEnd → Type 0 → Type 0
IfStopped Stopped P = P
IfStopped _ P = Unit {0}

-- none is under way any more, or each may be stopped
abbrev pub MayClose : {W : Type 0} → RunEnd → (ℕ → Type 0) → List (Option (TransferShown W)) → Type 0
MayClose Complete may_stop slots = sum_by one_if_some slots ≡ 0
MayClose end may_stop slots = (number : ℕ) → may_stop_at end may_stop number
