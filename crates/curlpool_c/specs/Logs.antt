-- What telling and cutting logs does: the lines that are written, how much of each log is told then, and which logs are
-- cut.
use Rattle.std.specs.Prelude.{◌≡◌, ◌⊎◌, ℕ, ◌<◌, ◌≤◌, nat_lt, if◌then◌else◌, List, ◌++◌, length, take, drop, map, slice_index_or, slice_set, Option, Some, None}
use Rattle.bundle.specs.Lease.{cut_refusal}
use Rattle.cache.specs.Pools.{PoolShown, host_at, cut_at, cut_host}
use Rattle.trace_text.specs.declared.writing.Stop.{Stop}
use Rattle.trace_text.specs.declared.writing.Stop.TheVariants.{Small, Memory}
use Rattle.trace_text.specs.declared.writing.Told.{Told}
use Rattle.trace_text.specs.LogLines.{WritesLines}
use Rattle.held_pool.specs.Calls.{HeldShown}
use Rattle.curlpool_c.specs.declared.inner.Inner.{Inner}
use Rattle.curlpool_c.specs.declared.status.TheConstants.{OK, MORE, NO_MEMORY, BAD_SITE, CLOSED, SMALL}
use Rattle.curlpool_c.specs.Statuses.{refusal_status}

-- the status where not all was told: there is more, or, if nothing was written, why
abbrev pub reason_status : Stop → ℕ
reason_status Small = SMALL
reason_status Memory = NO_MEMORY

abbrev pub stop_status : Stop → ℕ → ℕ
stop_status stop written = if nat_lt 0 written then MORE else reason_status stop

-- once all was told the log is cut, and its rest is told from its beginning the next time; or it cannot be cut
abbrev pub CutsTold : HeldShown → HeldShown → ℕ → ℕ → ℕ → ℕ → Type 0
CutsTold old new site place told_new status =
    ((status ≡ OK) × ((new ≡ record old { pool = cut_at site old.pool }) × (told_new ≡ 0)))
    ⊎ ((status ≡ refusal_status (cut_refusal (host_at old.pool site))) × ((new ≡ old) × (told_new ≡ place)))

-- what follows the lines that were written: where not all was told, nothing changes but how much was
abbrev pub EndsTelling : HeldShown → HeldShown → ℕ → Told → ℕ → ℕ → Option Stop → Type 0
EndsTelling old new site told told_new status None = CutsTold old new site told.place told_new status
EndsTelling old new site told told_new status (Some stop) = (new ≡ old) × ((told_new ≡ told.place) × (status ≡ stop_status stop told.written))

-- the lines of a site's log were written, from the place up to which it was told on, as many whole ones as fit
pub record TellsLines (old new : HeldShown) (site from told_new status : ℕ) (buffer buffer_new : List ℕ) (written : ℕ) : Type 0 where
  pub told : Told
  pub there : site < length old.pool.hosts
  pub writes : WritesLines site (host_at old.pool site).log (host_at old.pool site).cut_away from told buffer buffer_new
  pub count : written ≡ told.written
  pub ends : EndsTelling old new site told told_new status told.stop

-- what a call writes stays
pub record WritesNothing (buffer buffer_new : List ℕ) (written written_new : ℕ) : Type 0 where
  pub buffer_is : buffer_new ≡ buffer
  pub written_is : written_new ≡ written

-- there is no such site, and nothing changes
pub record HasNoSite (old new : HeldShown) (from told_new status : ℕ) (buffer buffer_new : List ℕ) (written written_new : ℕ) : Type 0 where
  pub answer : status ≡ BAD_SITE
  pub same : new ≡ old
  pub told : told_new ≡ from
  pub writes : WritesNothing buffer buffer_new written written_new

abbrev pub TellsLog : HeldShown → HeldShown → ℕ → ℕ → ℕ → ℕ → List ℕ → List ℕ → ℕ → ℕ → Type 0
TellsLog old new site from told_new status buffer buffer_new written written_new =
    TellsLines old new site from told_new status buffer buffer_new written_new
    ⊎ ((length old.pool.hosts ≤ site) × HasNoSite old new from told_new status buffer buffer_new written written_new)

-- the log of a site is told to the caller of an open pool, and how much of it was told is noted; nothing is written
-- without an open pool, or where it is not noted for the site how much was told
pub record TakesLog (held held_new : HeldShown) (old new : Inner) (site status : ℕ) (buffer buffer_new : List ℕ) (written written_new : ℕ) : Type 0 where
  pub there : site < length old.told.items
  pub told_new : ℕ
  pub noted : new.told.items ≡ slice_set old.told.items site told_new
  pub tells : TellsLog held held_new site (slice_index_or old.told.items site 0) told_new status buffer buffer_new written written_new

abbrev pub TakesHeld : HeldShown → Option HeldShown → Inner → Inner → ℕ → ℕ → List ℕ → List ℕ → ℕ → ℕ → Type 0
TakesHeld held None old new site status buffer buffer_new written written_new = ⊥
TakesHeld held (Some held_new) old new site status buffer buffer_new written written_new =
    TakesLog held held_new old new site status buffer buffer_new written written_new
    ⊎ (((length old.told.items ≤ site) × (status ≡ BAD_SITE)) × ((new ≡ old) × WritesNothing buffer buffer_new written written_new))

abbrev pub TakesIn : Inner → Inner → ℕ → ℕ → List ℕ → List ℕ → ℕ → ℕ → Option HeldShown → Type 0
TakesIn old new site status buffer buffer_new written written_new None = ((new ≡ old) × (status ≡ CLOSED)) × WritesNothing buffer buffer_new written written_new
TakesIn old new site status buffer buffer_new written written_new (Some held) = TakesHeld held new.held old new site status buffer buffer_new written written_new × (new.closing ≡ old.closing)

abbrev pub TakesBehind : Option Inner → Option Inner → ℕ → ℕ → List ℕ → List ℕ → ℕ → ℕ → Type 0
TakesBehind None new site status buffer buffer_new written written_new = ((new ≡ None) × (status ≡ CLOSED)) × WritesNothing buffer buffer_new written written_new
TakesBehind (Some old) (Some new) site status buffer buffer_new written written_new = TakesIn old new site status buffer buffer_new written written_new old.held
TakesBehind (Some old) None site status buffer buffer_new written written_new = ⊥

-- the log of one site was cut, and nothing of its rest is told
pub record CutsOne (old new : HeldShown) (site : ℕ) (told told_new : List ℕ) : Type 0 where
  pub cut : new ≡ record old { pool = cut_at site old.pool }
  pub noted : told_new ≡ slice_set told site 0

-- a pool once the logs of its first hosts are cut, so many: nothing else changes; and of their rests nothing is told
abbrev pub cut_first : ℕ → PoolShown ℕ → PoolShown ℕ
cut_first count pool = record pool { hosts = map cut_host (take count pool.hosts) ++ drop count pool.hosts }

abbrev pub untold : ℕ → ℕ
untold told = 0

abbrev pub untold_first : ℕ → List ℕ → List ℕ
untold_first count told = map untold (take count told) ++ drop count told

-- each log was cut, or those before one that cannot be
pub record DropsLogs (old new : HeldShown) (told told_new : List ℕ) (status : ℕ) : Type 0 where
  pub count : ℕ
  pub cuts : new ≡ record old { pool = cut_first count old.pool }
  pub noted : told_new ≡ untold_first count told
  pub ends : ((status ≡ OK) × (count ≡ length old.pool.hosts)) ⊎ ((count < length old.pool.hosts) × (status ≡ refusal_status (cut_refusal (host_at old.pool count))))

abbrev pub DropsHeld : HeldShown → Option HeldShown → Inner → Inner → ℕ → Type 0
DropsHeld held None old new status = ⊥
DropsHeld held (Some held_new) old new status = DropsLogs held held_new old.told.items new.told.items status

abbrev pub DropsIn : Inner → Inner → ℕ → Option HeldShown → Type 0
DropsIn old new status None = (new ≡ old) × (status ≡ CLOSED)
DropsIn old new status (Some held) = DropsHeld held new.held old new status × (new.closing ≡ old.closing)

abbrev pub DropsBehind : Option Inner → Option Inner → ℕ → Type 0
DropsBehind None new status = (new ≡ None) × (status ≡ CLOSED)
DropsBehind (Some old) (Some new) status = DropsIn old new status old.held
DropsBehind (Some old) None status = ⊥
