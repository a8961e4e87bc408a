-- What a worker of a run with many jobs at once does, and what such a run answers.
use Rattle.std.specs.Prelude.{◌≡◌, ℕ, ◌<◌, ◌≤◌, List, [], ◌∷◌, map, Bool, true, ◌||◌, nat_lt, Option, Some, None, IsSomeAnd}
use Rattle.std.specs.List.{All, flat_map}
use Rattle.run_loop.specs.Draws.{Jobs, Drawn, new_seat, AreFirst}
use Rattle.bundle.specs.Passes.{Accounts}
use Rattle.exchange.specs.declared.job.Job.{Job}
use Rattle.exchange.specs.declared.done.Done.{Done}
use Rattle.exchange.specs.Transfers.{TransferShown}
use Rattle.exchange.specs.Worlds.{World}
use Rattle.shared_cache.specs.Names.{CacheNames}
use Rattle.shared_cache.specs.Passes.{IsPassOf, IsNewPass}
use Rattle.shared_cache.specs.Desks.{DeskShown}
use Rattle.shared_cache.specs.DeskCalls.{DidAtDesk}
use Rattle.run_loop.specs.declared.run_end.RunEnd.{RunEnd}
use Rattle.run_loop.specs.declared.run_end.RunEnd.TheVariants.{Complete}
use Rattle.run_loop.specs.Going.{may_stop_at, worse_end, TurnsAt, IfComplete, IfStopped}
use Rattle.run_loop.specs.Running.{IsRunning, numbers_of}
use Rattle.run_loop.specs.Taking.{JobResult, AllTaken, ends_of}
use Rattle.run_loop.specs.declared.results.Span.{Span}
use Rattle.driver.specs.declared.fault.DriverFault.{DriverFault}
use Rattle.driver.specs.declared.fault.DriverFault.TheVariants.{BadWorkers, Memory}
use Rattle.driver.specs.Faults.{are_bad_workers}
use Rattle.driver.specs.declared.many.worker.Tools.{Tools}
use Rattle.driver.specs.declared.many.worker.Finished.{Finished}

-- what a worker has done: what took its results, before and after; how many turns of its dial had failed, before and after;
-- the numbers that it drew, and the results that were taken, the newest first; its pass, and how its loop ended
pub record LoopWork (F : Type 0) : Type 0 where
  pub begun : F
  pub ended : F
  pub failed : ℕ
  pub failed_now : ℕ
  pub drawn : List ℕ
  pub told : List JobResult
  pub pass : Accounts
  pub end : RunEnd

-- what the worker was handed, and what it hands back
abbrev pub begun_of : {F : Type 0} → LoopWork F → F × ℕ
begun_of work = (work.begun, work.failed)

abbrev pub back_of : {F : Type 0} → LoopWork F → F × ℕ × Accounts
back_of work = (work.ended, work.failed_now, work.pass)

-- how the job of each number that it drew ended
abbrev pub told_of : {F : Type 0} → LoopWork F → List (ℕ × Done)
told_of work = ends_of work.told

abbrev pub drawn_of : {F : Type 0} → LoopWork F → List ℕ
drawn_of work = work.drawn

abbrev pub end_of : {F : Type 0} → LoopWork F → RunEnd
end_of work = work.end

-- with a new pass of the cache the worker carried out the jobs that it drew, as they are for the worker of its number, any
-- number at once, and did nothing else at its desk; each has its result, which was taken once
pub record IsLoopWork {W F : Type 0} (world : World W) (may_stop : ℕ → Type 0) (names : CacheNames) (job_at : ℕ → ℕ → Job) (took : F → F → ℕ → Done → Span → Type 0) (work : LoopWork F) : Type 0 where
  pub worker : ℕ
  pub before : DeskShown W
  pub after : DeskShown W
  pub new_pass : IsNewPass before.pass
  pub pass_is : work.pass ≡ after.pass
  pub of_cache : IsPassOf names work.pass
  pub taken : AllTaken took work.begun work.ended work.told
  pub running : IsRunning (DidAtDesk names) world (may_stop_at work.end may_stop) (job_at worker) before after work.drawn [] (told_of work)
  pub stopped : IfStopped work.end ((number : ℕ) → may_stop number)
  pub turns : TurnsAt work.end work.failed work.failed_now

-- the worst of some ends
abbrev pub worst_from : RunEnd → List RunEnd → RunEnd
worst_from end [] = end
worst_from end (other ∷ others) = worst_from (worse_end other end) others

-- what is handed in, and what comes back: what takes results, how many turns of the dial have failed, and the pass
abbrev pub handed_in : {D F : Type 0} → (D → ℕ) → List (Tools D F) → List (F × ℕ)
handed_in {D} {F} failures tools = map (λ (own : Tools D F). (own.results, failures own.dial)) tools

abbrev pub handed_back : {D F : Type 0} → (D → ℕ) → List (Finished D F) → List (F × ℕ × Accounts)
handed_back {D} {F} failures finished = map (λ (own : Finished D F). (own.results, failures own.dial, own.pass)) finished

-- each of them hands back a pass of the cache
abbrev pub HavePasses : {D F : Type 0} → CacheNames → List (Finished D F) → Type 0
HavePasses {D} {F} names finished = All (λ (own : Finished D F). IsPassOf names own.pass) finished

-- Each worker carried out the jobs that it drew, with a pass of its own. All workers together drew the first jobs, as many
-- as the report says, each of which has one result. The run ended as the worker that ended worst; if it is complete, all
-- jobs were drawn.
pub record IsManyRun {W F : Type 0} (world : World W) (may_stop : ℕ → Type 0) (names : CacheNames) (job_at : ℕ → ℕ → Job) (took : F → F → ℕ → Done → Span → Type 0) (jobs : ℕ) (begun : List (F × ℕ)) (back : List (F × ℕ × Accounts)) (end : RunEnd) (drawn : ℕ) : Type 0 where
  pub all_work : List (LoopWork F)
  pub worked : All (IsLoopWork world may_stop names job_at took) all_work
  pub begun_is : map begun_of all_work ≡ begun
  pub back_is : map back_of all_work ≡ back
  pub once : AreFirst drawn (numbers_of (flat_map told_of all_work))
  pub within : drawn ≤ jobs
  pub ends : end ≡ worst_from Complete (map end_of all_work)
  pub complete : IfComplete end (drawn ≡ jobs)

-- a worker that was hired: the places of its loop, what takes its results, how many turns of its dial have failed, its seat
-- and its pass
pub record HiredShown (W F : Type 0) : Type 0 where
  pub places : List (Option (TransferShown W))
  pub results : F
  pub failed : ℕ
  pub seat : Drawn
  pub pass : Accounts

abbrev pub hired_with : {W F : Type 0} → List (Option (TransferShown W)) → F → ℕ → Drawn → Accounts → HiredShown W F
hired_with places results failed seat pass = record { places = places; results = results; failed = failed; seat = seat; pass = pass }

-- what a worker leaves, the same, and how its loop ended
pub record LeftShown (F : Type 0) : Type 0 where
  pub results : F
  pub failed : ℕ
  pub seat : Drawn
  pub pass : Accounts
  pub end : RunEnd

abbrev pub left_with : {F : Type 0} → F → ℕ → Drawn → Accounts → RunEnd → LeftShown F
left_with results failed seat pass end = record { results = results; failed = failed; seat = seat; pass = pass; end = end }

-- a worker before its work, while it works, and after it
pub record LoopShown (W F : Type 0) : Type 0 where
  pub hired : Option (HiredShown W F)
  pub left : Option (LeftShown F)

-- a worker before its work: it has a new pass of the cache, a loop in which nothing is under way, and a seat with which it
-- has drawn nothing
pub record IsNewWorker {W F : Type 0} (names : CacheNames) (claim : Jobs) (hired : HiredShown W F) : Type 0 where
  pub empty : hired.places ≡ []
  pub of_cache : IsPassOf names hired.pass
  pub new_pass : IsNewPass hired.pass
  pub seat_is : hired.seat ≡ new_seat claim

pub record IsHiredLoop {W F : Type 0} (names : CacheNames) (claim : Jobs) (worker : LoopShown W F) : Type 0 where
  pub hired : IsSomeAnd worker.hired (IsNewWorker names claim)
  pub none : worker.left ≡ None

-- it was handed that
abbrev pub BeginsAs : {W F : Type 0} → F × ℕ → LoopShown W F → Type 0
BeginsAs begun worker = IsSomeAnd worker.hired (λ hired. begun ≡ (hired.results, hired.failed))

abbrev pub AllBegin : {W F : Type 0} → List (F × ℕ) → List (LoopShown W F) → Type 0
AllBegin [] [] = Unit {0}
AllBegin (begun ∷ others) (worker ∷ rest) = BeginsAs begun worker × AllBegin others rest
AllBegin _ _ = ⊥

-- a worker leaves this after that work: its seat drew the numbers, and, if its loop is complete, a number past the jobs
pub record LeavesAs {F : Type 0} (claim : Jobs) (work : LoopWork F) (left : LeftShown F) : Type 0 where
  pub results : left.results ≡ work.ended
  pub failed : left.failed ≡ work.failed_now
  pub pass : left.pass ≡ work.pass
  pub end : left.end ≡ work.end
  pub at : left.seat.claim ≡ claim
  pub share : left.seat.share ≡ 1
  pub drawn : left.seat.drawn ≡ work.drawn
  pub past : IfComplete left.end (0 < left.seat.past)

-- so a worker did that was handed this
pub record Loops {W F : Type 0} (world : World W) (may_stop : ℕ → Type 0) (names : CacheNames) (job_at : ℕ → ℕ → Job) (took : F → F → ℕ → Done → Span → Type 0) (claim : Jobs) (begun : F × ℕ) (left : LeftShown F) : Type 0 where
  pub work : LoopWork F
  pub begun_is : begun_of work ≡ begun
  pub worked : IsLoopWork world may_stop names job_at took work
  pub leaves : LeavesAs claim work left

-- whatever it was handed, so it did
pub record LoopsFrom {W F : Type 0} (world : World W) (may_stop : ℕ → Type 0) (names : CacheNames) (job_at : ℕ → ℕ → Job) (took : F → F → ℕ → Done → Span → Type 0) (claim : Jobs) (old new : LoopShown W F) : Type 0 where
  pub left : LeftShown F
  pub is : new ≡ record { hired = None; left = Some left }
  pub loops : (begun : F × ℕ) → BeginsAs begun old → Loops world may_stop names job_at took claim begun left

-- each worker has left after its work
pub record HasLeft {W F : Type 0} (claim : Jobs) (work : LoopWork F) (worker : LoopShown W F) : Type 0 where
  pub none : worker.hired ≡ None
  pub left : IsSomeAnd worker.left (LeavesAs claim work)

abbrev pub AllLeft : {W F : Type 0} → Jobs → List (LoopWork F) → List (LoopShown W F) → Type 0
AllLeft claim [] [] = Unit {0}
AllLeft claim (work ∷ others) (worker ∷ rest) = HasLeft claim work worker × AllLeft claim others rest
AllLeft claim _ _ = ⊥

-- all workers have left, which began with this
pub record HaveLooped {W F : Type 0} (world : World W) (may_stop : ℕ → Type 0) (names : CacheNames) (job_at : ℕ → ℕ → Job) (took : F → F → ℕ → Done → Span → Type 0) (claim : Jobs) (begun : List (F × ℕ)) (left : List (LoopShown W F)) : Type 0 where
  pub all_work : List (LoopWork F)
  pub worked : All (IsLoopWork world may_stop names job_at took) all_work
  pub begun_is : map begun_of all_work ≡ begun
  pub left_is : AllLeft claim all_work left

-- there are no tools, more than 64, or more than places
abbrev pub are_bad_tools : ℕ → ℕ → Bool
are_bad_tools tools places = are_bad_workers tools || nat_lt places tools

-- why a run did not begin: bad workers, only if they are; else an allocation failure
abbrev pub IsNotBegunFor : ℕ → ℕ → DriverFault → Type 0
IsNotBegunFor tools places BadWorkers = are_bad_tools tools places ≡ true
IsNotBegunFor tools places fault = fault ≡ Memory
