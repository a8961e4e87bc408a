-- What is to be seen of a desk.
use Rattle.std.specs.Prelude.{◌≡◌, ℕ, ◌≤◌, Some}
use Rattle.persistence.specs.declared.facts.Facts.{Facts}
use Rattle.conn_log.specs.declared.entry.Event.TheVariants.{Returned}
use Rattle.budget.specs.Accounts.{account_at}
use Rattle.bundle.specs.Lease.{Leasing}
use Rattle.bundle.specs.declared.did.Did.TheVariants.{Wrote}
use Rattle.cache_trait.specs.CacheCalls.CacheCall.{gives_back}
use Rattle.cache_trait.specs.Homes.{IsMadeBy}
use Rattle.shared_cache.specs.Names.{CacheNames}
use Rattle.shared_cache.specs.Passes.{IsPassOf}
use Rattle.shared_cache.specs.Desks.{DeskShown}
use Rattle.shared_cache.specs.DeskCalls.{DidAtDesk}

-- right after a lease of the cache went back, the last that the pass was told at that site is the return of the
-- connection, with these facts, of a moment that is not before the one handed in; and the wire is the lease's
pub record ShowsReturn {S : Type 0} (desk : DeskShown S) (lease : Leasing S) (facts : Facts) (now : ℕ) : Type 0 where
  pub moment : ℕ
  pub later : now ≤ moment
  pub last : (account_at desk.pass lease.site).last ≡ Some (Wrote (record { moment = moment; event = Returned lease.start.number facts }))
  pub wire : desk.wire ≡ lease.stream

abbrev pub DeskShowsWhatWentBack : Type 0 → Type 0
DeskShowsWhatWentBack S =
    (names : CacheNames) (old new : DeskShown S) (lease : Leasing S) (facts : Facts) (now : ℕ)
    → IsPassOf names old.pass → IsMadeBy names.hosts lease.site lease.tables
    → DidAtDesk names old new (gives_back lease facts now) → ShowsReturn new lease facts now
