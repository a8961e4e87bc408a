-- What a change of a host's limit answers.
use Rattle.std.specs.Prelude.{◌≡◌, ℕ, ◌<◌, ◌≤◌, Bool}
use Rattle.budget.specs.declared.permits.Try.{Try}
use Rattle.budget.specs.declared.permits.Try.TheVariants.{Full, Contended}
use Rattle.host_state.specs.Calls.{after_limit, starts_due, is_queued, is_freed}
use Rattle.host_state.specs.Asks.{limit_asks}
use Rattle.bundle.specs.Lease.{HostShown}

-- how many of those that wait the limit lets start
abbrev pub limit_due : {S : Type 0} → ℕ → HostShown S → ℕ
limit_due most host = starts_due (is_queued host.settings host.log) most host.log

-- the limit is changed, and as many start as the budget had room for
pub record ChangesLimit {S : Type 0} (Opening : Try → Type 0) (Asked : ℕ → ℕ → Type 0) (most : ℕ) (old new : HostShown S) (now : ℕ) (freed : Bool) : Type 0 where
  pub given : ℕ
  pub within : given ≤ limit_due most old
  pub full : given < limit_due most old → Opening Full
  pub log : new.log ≡ after_limit most given old.settings old.log now
  pub asked : Asked (limit_asks given (limit_due most old)) 0
  pub freed_is : freed ≡ is_freed old.log new.log

-- the budget has to be asked again: it was asked at least once, and at most once for each transfer that is due
pub record HasToAskAgain {S : Type 0} (Opening : Try → Type 0) (Asked : ℕ → ℕ → Type 0) (most : ℕ) (old new : HostShown S) : Type 0 where
  pub asks : ℕ
  pub some : 0 < asks
  pub within : asks ≤ limit_due most old
  pub asked : Asked asks 0
  pub contended : Opening Contended
  pub same : new ≡ old
