-- What a worker does, by the numbers that it draws.
use Rattle.std.specs.Prelude.{◌≡◌, ℕ, ◌+◌, ◌<◌, ◌∷◌, ◌++◌, List, [], Bool, true, false, Result, Ok, Err, Option, Some}
use Rattle.std.specs.List.{All}
use Rattle.cache_trait.specs.CacheCalls.{CacheCall}
use Rattle.bundle.specs.Passes.{Accounts}
use Rattle.run_loop.specs.Draws.{Drawn}
use Rattle.exchange.specs.declared.job.Job.{Job}
use Rattle.exchange.specs.declared.done.Done.{Done}
use Rattle.exchange.specs.Worlds.{World}
use Rattle.driver.specs.declared.quit.Quit.{Quit}
use Rattle.driver.specs.Results.{IsResultAt, CarriesOutAt}

-- a worker: how many connections its dial has opened, how many turns of its dial failed, its seat, its pass unless a desk
-- has it, how the jobs that it drew ended, each with its number, and why it gave up, if it did
pub record WorkerShown : Type 0 where
  pub opened : ℕ
  pub failed : ℕ
  pub seat : Drawn
  pub pass : Option Accounts
  pub results : List (ℕ × Done)
  pub quit : Option Quit

-- a worker whose dial has opened so many and failed so often, that leaves its seat, its pass, its results and its reason so
abbrev pub left_with : ℕ → ℕ → Drawn → Accounts → List (ℕ × Done) → Option Quit → WorkerShown
left_with opened failed seat pass results quit = record { opened = opened; failed = failed; seat = seat; pass = Some pass; results = results; quit = quit }

-- each result is that of the job whose number it bears
abbrev pub AreResults : {W : Type 0} → World W → (ℕ → Type 0) → List Job → List (ℕ × Done) → Type 0
AreResults world may_stop jobs results = All (λ (result : ℕ × Done). IsResultAt world may_stop jobs result.0 result.1) results

-- a worker drew the number of a job, which is above all that it drew before, and carried the job out; it has its result
-- behind the others
pub record DrawsOne {C W : Type 0} (did : C → C → CacheCall W → Type 0) (world : World W) (may_stop : ℕ → Type 0) (jobs : List Job) (before after : C) (seat next : Drawn) (results more : List (ℕ × Done)) : Type 0 where
  pub number : ℕ
  pub done : Done
  pub above : All (λ n. n < number) seat.drawn
  pub drawn : next ≡ record seat { drawn = seat.drawn ++ number ∷ [] }
  pub added : more ≡ results ++ (number, done) ∷ []
  pub result_is : IsResultAt world may_stop jobs number done
  pub carried : CarriesOutAt did world jobs number before after done

-- it drew a number past the jobs, and did nothing
pub record DrawsNone {C : Type 0} (before after : C) (seat next : Drawn) (results more : List (ℕ × Done)) : Type 0 where
  pub past : next ≡ record seat { past = seat.past + 1 }
  pub none_added : more ≡ results
  pub nothing : after ≡ before

-- whether there was a job; nothing is said of a worker that gives up
abbrev pub Goes : {C W : Type 0} → (C → C → CacheCall W → Type 0) → World W → (ℕ → Type 0) → List Job → C → C → Drawn → Drawn → List (ℕ × Done) → List (ℕ × Done) → Result Bool Quit → Type 0
Goes did world may_stop jobs before after seat next results more (Ok true) = DrawsOne did world may_stop jobs before after seat next results more
Goes did world may_stop jobs before after seat next results more (Ok false) = DrawsNone before after seat next results more
Goes did world may_stop jobs before after seat next results more (Err quit) = Unit {0}
