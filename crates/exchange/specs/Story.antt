-- What a cache did for a transfer since that began, by where the transfer stands: the newest first.
use Rattle.std.specs.Prelude.{◌≡◌, ℕ, Bool, true, false, [], ◌∷◌, ◌⊎◌, List, is_some}
use Rattle.persistence.specs.declared.facts.Facts.{Facts}
use Rattle.conn_log.specs.declared.entry.Want.{Want}
use Rattle.bundle.specs.Lease.{Leasing, Ticketed}
use Rattle.exchange.specs.declared.job.Prepared.{Prepared}
use Rattle.cache_trait.specs.CacheCalls.{CacheCall}
use Rattle.cache_trait.specs.CacheCalls.CacheCall.{leases, begins_wait, grants, keeps_waiting, gives_back, abandons, finds_strange_lease}
use Rattle.exchange.specs.Worlds.{World, OnWire}
use Rattle.exchange.specs.Answers.{wanted_at, wanted, IsFruitless}

-- a transfer waits with that ticket since what was done before, and what it waits for was asked at a moment that the
-- clock told
abbrev pub Waits : {W : Type 0} → World W → (List (CacheCall W) → Type 0) → Ticketed → List (CacheCall W) → Type 0
Waits world Before ticket (begins_wait same now ∷ earlier) = (same ≡ ticket) × world.tells now × Before earlier
Waits world Before ticket (keeps_waiting same ∷ earlier) = (same ≡ ticket) × Waits world Before ticket earlier
Waits world Before ticket _ = ⊥

-- with a ticket of that site for that want
pub record WaitsFor {W : Type 0} (world : World W) (Before : List (CacheCall W) → Type 0) (site : ℕ) (want : Want) (ticket : Ticketed) (calls : List (CacheCall W)) : Type 0 where
  pub site_is : ticket.site ≡ site
  pub want_is : ticket.wait.want ≡ want
  pub waits : Waits world Before ticket calls

-- a lease was given at once, at a moment that the clock told
pub record IsGiven {W : Type 0} (world : World W) (Before : List (CacheCall W) → Type 0) (lease : Leasing W) (calls : List (CacheCall W)) : Type 0 where
  pub now : ℕ
  pub earlier : List (CacheCall W)
  pub last : calls ≡ leases lease now ∷ earlier
  pub told : world.tells now
  pub before : Before earlier

-- or granted after a wait with a ticket of that site for that want
pub record IsGranted {W : Type 0} (world : World W) (Before : List (CacheCall W) → Type 0) (site : ℕ) (want : Want) (lease : Leasing W) (calls : List (CacheCall W)) : Type 0 where
  pub ticket : Ticketed
  pub earlier : List (CacheCall W)
  pub last : calls ≡ grants lease ∷ earlier
  pub waited : WaitsFor world Before site want ticket earlier

-- a transfer gets that lease, of that site for that want; a reused connection has its wire, and a new one has none
pub record Gets {W : Type 0} (world : World W) (Before : List (CacheCall W) → Type 0) (site : ℕ) (want : Want) (lease : Leasing W) (calls : List (CacheCall W)) : Type 0 where
  pub how : IsGiven world Before lease calls ⊎ IsGranted world Before site want lease calls
  pub site_is : lease.site ≡ site
  pub want_is : lease.start.want ≡ want
  pub wire : is_some lease.stream ≡ lease.start.reused

-- what a lease has become since it was given, and nothing of it but its wire has changed
pub record Holds {W : Type 0} (world : World W) (Before : List (CacheCall W) → Type 0) (site : ℕ) (want : Want) (given lease : Leasing W) (calls : List (CacheCall W)) : Type 0 where
  pub got : Gets world Before site want given calls
  pub same : lease ≡ record given { stream = lease.stream }

-- nothing was done
abbrev pub NoneDone : {W : Type 0} → List (CacheCall W) → Type 0
NoneDone calls = calls ≡ []

-- a lease was given back with those facts at a moment that the clock told
abbrev pub IsReturn : {W : Type 0} → World W → Facts → Leasing W → CacheCall W → Type 0
IsReturn world facts lease call = (moment : ℕ) × world.tells moment × (call ≡ gives_back lease facts moment)

-- or abandoned
abbrev pub IsDrop : {W : Type 0} → World W → Leasing W → CacheCall W → Type 0
IsDrop world lease call = (moment : ℕ) × world.tells moment × (call ≡ abandons lease moment)

-- or taken for a stranger
abbrev pub IsStray : {W : Type 0} → Leasing W → CacheCall W → Type 0
IsStray lease call = call ≡ finds_strange_lease lease

-- the request was sent before: on a reused connection, which failed or was ended before any byte of a response, and was
-- abandoned
pub record WasTried {W : Type 0} (world : World W) (p : Prepared) (calls : List (CacheCall W)) : Type 0 where
  pub given : Leasing W
  pub lease : Leasing W
  pub call : CacheCall W
  pub earlier : List (CacheCall W)
  pub last : calls ≡ call ∷ earlier
  pub dropped : IsDrop world lease call
  pub held : Holds world NoneDone p.site (wanted_at p false) given lease earlier
  pub reused : lease.start.reused ≡ true
  pub wire : OnWire world given lease (IsFruitless p)

-- it asks the cache for a connection: for the first time, or once more
abbrev pub AsksAt : {W : Type 0} → World W → Prepared → Bool → List (CacheCall W) → Type 0
AsksAt world p false calls = NoneDone calls
AsksAt world p true calls = WasTried world p calls

abbrev pub Asks : {W : Type 0} → World W → Prepared → List (CacheCall W) → Type 0
Asks world p calls = AsksAt world p p.retried calls

-- it has a lease, and had that one from the cache
abbrev pub Has : {W : Type 0} → World W → Prepared → Leasing W → Leasing W → List (CacheCall W) → Type 0
Has world p given lease calls = Holds world (Asks world p) p.site (wanted p) given lease calls
