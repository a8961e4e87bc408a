-- What a worker is hired with.
use Rattle.std.proofs.Common.{◌≡◌, sym, subst, [], Option, Some, None, IsSomeAnd}
use Rattle.run_loop.specs.Draws.{Jobs, new_seat}
use Rattle.bundle.specs.Passes.{Accounts}
use Rattle.shared_cache.specs.Names.{CacheNames}
use Rattle.shared_cache.specs.Passes.{IsPassOf, IsNewPass}
use Rattle.driver.specs.Workers.{WorkerShown}
use Rattle.driver.specs.Hiring.{IsHired}

pub hired_with : (names : CacheNames) (claim : Jobs) (worker : WorkerShown) (pass : Accounts) → worker.pass ≡ Some pass → worker.seat ≡ new_seat claim → worker.results ≡ [] → worker.quit ≡ None
    → IsPassOf names pass → IsNewPass pass → IsHired names claim worker
hired_with names claim worker pass passed seat results well its its_new = record {
  pass_is = subst (λ (given : Option Accounts). IsSomeAnd given (IsPassOf names)) (sym passed) its;
  new_pass = subst (λ (given : Option Accounts). IsSomeAnd given IsNewPass) (sym passed) its_new;
  seat_is = seat;
  no_results = results;
  well = well;
}
