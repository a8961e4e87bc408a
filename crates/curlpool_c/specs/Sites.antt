-- What the calls on sites, and those that tell of them, do, answer and write.
use Rattle.std.specs.Prelude.{◌≡◌, ◌⊎◌, ℕ, ◌<◌, ◌≤◌, ◌++◌, codes, length, List, [], Option, Some, None, Result, Ok, Err, IfOk, IfErr, OnOk, OnErr, IfSome, IfNone, unwrap_or}
use Rattle.std.specs.Fmt.{decimal}
use Rattle.conn_log.specs.Counts.{counts}
use Rattle.conn_log.specs.declared.counts.Counts.{Counts}
use Rattle.budget.specs.declared.refusal.Refusal.{Refusal}
use Rattle.host_state.specs.Calls.{is_queued}
use Rattle.host_state.specs.Counts.{snapshot_of}
use Rattle.cache.specs.Calls.{after_limit_of, after_prune, prune_count}
use Rattle.cache.specs.Pools.{all_hosts, host_at}
use Rattle.cache.specs.PoolCalls.{IsCallAtAll, IsReason, limit_refusal_at}
use Rattle.held_pool.specs.declared.slot.Slot.{Slot}
use Rattle.held_pool.specs.declared.response.Response.{Response}
use Rattle.held_pool.specs.Readers.{TellsSome}
use Rattle.held_pool.specs.TokenNumbers.{IsNext}
use Rattle.conn_key.specs.declared.place_table.PlaceError.{PlaceError}
use Rattle.conn_key.specs.Giving.{Gives, Refuses}
use Rattle.held_pool.specs.Calls.{HeldShown, is_unused_site, reading_for}
use Rattle.curlpool_c.specs.declared.inner.Inner.{Inner}
use Rattle.curlpool_c.specs.declared.structs.CLook.{CLook}
use Rattle.curlpool_c.specs.declared.structs.CCounts.{CCounts}
use Rattle.curlpool_c.specs.declared.structs.CResponse.{CResponse}
use Rattle.curlpool_c.specs.declared.status.TheConstants.{OK, NONE, NO_MEMORY, CLOSED, BAD_SITE, UNREAD, NOT_TEXT}
use Rattle.curlpool_c.specs.Statuses.{place_status, refusal_status}
use Rattle.curlpool_c.specs.Structs.{IsLook, IsCounts, IsResponse}

-- the key of a host's site
abbrev pub key_of : List ℕ → ℕ → List ℕ
key_of host port = host ++ (codes ":" ++ decimal port)

-- a site was given, or refused as the table of sites refuses it
abbrev pub site_status : Result ℕ PlaceError → ℕ
site_status (Ok site) = OK
site_status (Err error) = place_status error

abbrev pub site_after : Result ℕ PlaceError → ℕ → ℕ
site_after (Ok site) before = site
site_after (Err error) before = before

pub record GivesSite (old new : HeldShown) (key : List ℕ) (status site site_new : ℕ) : Type 0 where
  pub answer : Result ℕ PlaceError
  pub gives : IfOk answer (λ place. Gives (is_unused_site old.pool) old.hosts key place new.hosts)
  pub refuses : IfErr answer (Refuses (is_unused_site old.pool) old.hosts key)
  pub same : OnErr answer (new ≡ old)
  pub rest : new ≡ record old { hosts = new.hosts }
  pub told : status ≡ site_status answer
  pub site_is : site_new ≡ site_after answer site

-- or the key was not made: the host is no text, or there was no memory for it
abbrev pub TellsSite : HeldShown → HeldShown → List ℕ → ℕ → ℕ → ℕ → Type 0
TellsSite old new key status site site_new = GivesSite old new key status site site_new ⊎ (((status ≡ NOT_TEXT) ⊎ (status ≡ NO_MEMORY)) × ((new ≡ old) × (site_new ≡ site)))

pub record TellsPrune (old new : HeldShown) (now max_age max_life status closed : ℕ) : Type 0 where
  pub done : IsCallAtAll (after_prune old.pool.limits now max_age max_life (all_hosts old.pool)) old.pool new.pool
  pub count : closed ≡ prune_count now max_age max_life (all_hosts old.pool)
  pub rest : new ≡ record old { pool = new.pool }
  pub told : status ≡ OK

abbrev pub TellsUpkeep : HeldShown → HeldShown → ℕ → ℕ → Type 0
TellsUpkeep old new status kept = ((new ≡ old) × (status ≡ OK)) × (kept ≡ 0)

abbrev pub limit_status : Result (Unit {0}) Refusal → ℕ
limit_status (Ok done) = OK
limit_status (Err refusal) = refusal_status refusal

pub record TellsLimit (old new : HeldShown) (site limit now status : ℕ) : Type 0 where
  pub answer : Result (Unit {0}) Refusal
  pub done : OnOk answer (IsCallAtAll (after_limit_of old.pool.limits site limit now (all_hosts old.pool)) old.pool new.pool)
  pub refused : IfErr answer (λ reason. (new.pool ≡ old.pool) × IsReason (limit_refusal_at old.pool site limit) reason)
  pub due : IfSome (limit_refusal_at old.pool site limit) (λ reason. answer ≡ Err reason)
  pub rest : new ≡ record old { pool = new.pool }
  pub told : status ≡ limit_status answer

-- a site is there, and this is told of it; or it is not, and nothing is written
abbrev pub TellsLook : HeldShown → ℕ → ℕ → CLook → CLook → Type 0
TellsLook held site status look look_new =
    ((status ≡ OK) × ((site < length held.pool.hosts) × IsLook (snapshot_of (host_at held.pool site).log (is_queued (host_at held.pool site).settings (host_at held.pool site).log)) look_new))
    ⊎ ((status ≡ BAD_SITE) × ((length held.pool.hosts ≤ site) × (look_new ≡ look)))

abbrev pub TellsCounts : HeldShown → ℕ → ℕ → CCounts → CCounts → Type 0
TellsCounts held site status told told_new =
    ((status ≡ OK) × ((site < length held.pool.hosts) × IsCounts (counts (host_at held.pool site).log) told_new))
    ⊎ ((status ≡ BAD_SITE) × ((length held.pool.hosts ≤ site) × (told_new ≡ told)))

-- what is read for the slot's lease is told; or nothing is read
abbrev pub TellsResponse : HeldShown → Slot → ℕ → CResponse → CResponse → Type 0
TellsResponse held slot status told told_new =
    ((status ≡ OK) × ((response : Response) × (TellsSome (reading_for held slot) response × IsResponse response told_new)))
    ⊎ ((status ≡ UNREAD) × ((reading_for held slot ≡ None) × (told_new ≡ told)))

-- the next closed token is told, or there is none
abbrev pub next_status : Option ℕ → ℕ
next_status (Some token) = OK
next_status None = NONE

pub record TellsNext (old new : List ℕ) (status token token_new : ℕ) : Type 0 where
  pub answer : Option ℕ
  pub some : IfSome answer (λ number. IsNext old number new)
  pub none : IfNone answer (old ≡ [])
  pub none_left : IfNone answer (new ≡ [])
  pub told : status ≡ next_status answer
  pub token_is : token_new ≡ unwrap_or answer token

-- those of an open pool, or those that are left of one
abbrev pub TellsLeft : Option (List ℕ) → Option (List ℕ) → ℕ → ℕ → ℕ → Type 0
TellsLeft None new status token token_new = (new ≡ None) × ((status ≡ CLOSED) × (token_new ≡ token))
TellsLeft (Some old) (Some new) status token token_new = TellsNext old new status token token_new
TellsLeft (Some old) None status token token_new = ⊥

abbrev pub TellsOpen : Option HeldShown → Option HeldShown → Type 0 → Type 0 → ℕ → ℕ → ℕ → Type 0
TellsOpen None new Left Stays status token token_new = (new ≡ None) × Left
TellsOpen (Some old) (Some new) Left Stays status token token_new = (TellsNext old.closed new.closed status token token_new × (new ≡ record old { closed = new.closed })) × Stays
TellsOpen (Some old) None Left Stays status token token_new = ⊥

-- nothing else behind the handle changes
abbrev pub TellsClosed : Inner → Inner → ℕ → ℕ → ℕ → Type 0
TellsClosed old new status token token_new = TellsOpen old.held new.held (TellsLeft old.closing new.closing status token token_new) (new.closing ≡ old.closing) status token token_new × (new.told ≡ old.told)

abbrev pub TellsClosedBehind : Option Inner → Option Inner → ℕ → ℕ → ℕ → Type 0
TellsClosedBehind None new status token token_new = (new ≡ None) × ((status ≡ CLOSED) × (token_new ≡ token))
TellsClosedBehind (Some old) (Some new) status token token_new = TellsClosed old new status token token_new
TellsClosedBehind (Some old) None status token token_new = ⊥
