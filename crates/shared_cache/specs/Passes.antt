-- The passes of a shared cache, and what its calls tell them.
use Rattle.std.specs.Prelude.{◌≡◌, ℕ, ◌<◌, ◌≤◌, List, length, slice_index_or, Option, Some, None, Result, Ok, Err}
use Rattle.conn_log.specs.declared.entry.Event.{Event}
use Rattle.conn_log.specs.declared.entry.Event.TheVariants.{Limit}
use Rattle.budget.specs.declared.refusal.Refusal.{Refusal}
use Rattle.budget.specs.Accounts.{account_at, change_at, spent_at, told, enrolled, IsEnrolledAt}
use Rattle.budget.specs.Starts.{Spendings}
use Rattle.host_state.specs.Calls.{Start, start_entry, wait_entry, kept_limit}
use Rattle.bundle.specs.declared.answers.Acquired.{Acquired}
use Rattle.bundle.specs.declared.answers.Acquired.TheVariants.{Lease, Wait}
use Rattle.bundle.specs.declared.did.Did.{Did}
use Rattle.bundle.specs.declared.did.Did.TheVariants.{Wrote, Pruned}
use Rattle.bundle.specs.Seats.{Tables}
use Rattle.bundle.specs.Passes.{Accounts, tells, spends, withdraws, refusal_did}
use Rattle.shared_cache.specs.Names.{CacheNames, HasTables}

-- a pass of the cache has an account for each host, and is enrolled at each host's tally
pub record IsPassOf (names : CacheNames) (pass : Accounts) : Type 0 where
  pub accounts : length pass ≡ length names.hosts
  pub enrolled : (host : ℕ) (tables : Tables) → HasTables names host tables → IsEnrolledAt pass host tables.starts

-- the seat of a pass with which nothing was spent there yet, and what gives it to a pass
abbrev pub new_seat : Tables → Spendings
new_seat tables = record { table = tables.starts; spent = 0 }

abbrev pub EnrolsAt : CacheNames → ℕ → Accounts → Accounts → Type 0
EnrolsAt names site old new = (tables : Tables) × HasTables names site tables × (new ≡ change_at old site (enrolled (new_seat tables)))

-- what an acquire tells: the start or the wait of what it gives, or why it is refused
abbrev pub acquired_did : {S : Type 0} → Acquired S → Did
acquired_did (Lease lease) = Wrote (start_entry lease.start)
acquired_did (Wait ticket) = Wrote (wait_entry ticket.wait)

abbrev pub result_did : {S : Type 0} → ℕ → Result (Acquired S) Refusal → Option Did
result_did transfer (Ok got) = Some (acquired_did got)
result_did transfer (Err refusal) = refusal_did transfer refusal

-- a lease is spent at a host, and the pass is told its entry, of a moment that is not before the one handed in
abbrev pub SpendsAs : ℕ → ℕ → Event → Accounts → Accounts → Type 0
SpendsAs site now event old new = (moment : ℕ) × (now ≤ moment) × (new ≡ spends site moment event old)

-- a wait ends there: the transfer leaves, or what it was granted is closed
abbrev pub WithdrawsAs : ℕ → ℕ → ℕ → Accounts → Accounts → Type 0
WithdrawsAs site now transfer old new =
    (moment : ℕ) × (granted : Option Start) × (now ≤ moment) × (new ≡ withdraws site moment transfer granted old)

-- the host has a new limit from then on
abbrev pub LimitsAs : ℕ → ℕ → ℕ → Accounts → Accounts → Type 0
LimitsAs site now limit old new =
    (moment : ℕ) × (now ≤ moment)
    × (new ≡ tells site (Some (Wrote (record { moment = moment; event = Limit (kept_limit limit) }))) old)

-- at each host so many were closed, as too old by these numbers, and the pass was told so
abbrev pub pruned_at : ℕ → ℕ → ℕ → List ℕ → ℕ → Did
pruned_at now max_age max_life closings host =
    Pruned now max_age max_life (slice_index_or closings host 0)

pub record IsPruned (names : CacheNames) (now max_age max_life : ℕ) (closings : List ℕ) (old new : Accounts) : Type 0 where
  pub hosts : length closings ≡ length names.hosts
  pub told_at : (host : ℕ) → host < length names.hosts
      → account_at new host ≡ told (pruned_at now max_age max_life closings host) (account_at old host)

-- nothing was spent with the pass yet, and nothing told
pub record IsNewPass (pass : Accounts) : Type 0 where
  pub unspent : (host : ℕ) → spent_at pass host ≡ 0
  pub untold : (host : ℕ) → (account_at pass host).last ≡ None
  pub no_calls : (host : ℕ) → (account_at pass host).calls ≡ 0
