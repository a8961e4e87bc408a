-- How a pool is opened, ended and closed.
use Rattle.std.specs.Prelude.{◌≡◌, ◌⊎◌, ℕ, ◌<◌, true, false, List, [], replicate, Option, Some, None, IfSome}
use Rattle.budget.specs.Limits.{is_bad_limit, bounds_of}
use Rattle.cache_trait.specs.CacheCalls.{AllDone}
use Rattle.cache.specs.Pools.{PoolShown, IsNewPool}
use Rattle.cache.specs.PoolCalls.{DidToPool}
use Rattle.held_pool.specs.Calls.{HeldShown, endings_in}
use Rattle.curlpool_c.specs.declared.inner.Inner.{Inner}
use Rattle.curlpool_c.specs.declared.status.TheConstants.{OK, NO_MEMORY, CLOSED, ALREADY_OPEN, BAD_LIMIT, MORE}

-- a new pool, with nothing in it
pub record IsEmptyPool (hosts host_limit total connects : ℕ) (held : HeldShown) : Type 0 where
  pub pool : IsNewPool (bounds_of host_limit total connects) hosts held.pool
  pub places : held.places ≡ []
  pub closed : held.closed ≡ []
  pub readers : held.readers ≡ []
  pub sites : held.hosts ≡ record { keys = []; places = hosts }

abbrev pub IsOpened : ℕ → ℕ → ℕ → ℕ → Option HeldShown → Type 0
IsOpened hosts host_limit total connects None = ⊥
IsOpened hosts host_limit total connects (Some held) = IsEmptyPool hosts host_limit total connects held

-- behind the handle of a new pool there is that alone, and nothing of its logs was told
pub record IsNewInner (hosts host_limit total connects : ℕ) (inner : Inner) : Type 0 where
  pub held : IsOpened hosts host_limit total connects inner.held
  pub closing : inner.closing ≡ None
  pub told : inner.told.items ≡ replicate hosts 0

-- why none was made: the numbers are no limits, there are too many hosts, or there is no memory
abbrev pub IsOpenFault : ℕ → ℕ → ℕ → ℕ → ℕ → Type 0
IsOpenFault hosts host_limit total connects status =
    ((status ≡ BAD_LIMIT) × ((is_bad_limit host_limit total connects ≡ true) ⊎ (1024 < hosts)))
    ⊎ ((status ≡ NO_MEMORY) × (is_bad_limit host_limit total connects ≡ false))

-- a pool is opened where there is none
abbrev pub Opens : ℕ → ℕ → ℕ → ℕ → ℕ → Option Inner → Option Inner → Type 0
Opens hosts host_limit total connects status (Some old) new = (new ≡ Some old) × (status ≡ ALREADY_OPEN)
Opens hosts host_limit total connects status None None = IsOpenFault hosts host_limit total connects status
Opens hosts host_limit total connects status None (Some new) = (status ≡ OK) × IsNewInner hosts host_limit total connects new

-- all that the slots held was ended, and the pool is gone; its tokens are left
pub record EndsHeldPool (held : HeldShown) (new : Inner) (now status : ℕ) : Type 0 where
  pub after : PoolShown ℕ
  pub done : AllDone DidToPool held.pool after (endings_in now held.places)
  pub gone : new.held ≡ None
  pub left : new.closing ≡ Some held.closed
  pub told : status ≡ OK

abbrev pub EndsHeldIn : Option HeldShown → Inner → Inner → ℕ → ℕ → Type 0
EndsHeldIn None old new now status = (new ≡ old) × (status ≡ CLOSED)
EndsHeldIn (Some held) old new now status = EndsHeldPool held new now status

abbrev pub EndsAll : Inner → Inner → ℕ → ℕ → Type 0
EndsAll old new now status = EndsHeldIn old.held old new now status

abbrev pub EndsBehind : Option Inner → Option Inner → ℕ → ℕ → Type 0
EndsBehind None new now status = (new ≡ None) × (status ≡ CLOSED)
EndsBehind (Some old) (Some new) now status = EndsAll old new now status
EndsBehind (Some old) None now status = ⊥

-- tokens that are to be told stay; where none was left, others were gathered
abbrev pub KeepsTokens : Option (List ℕ) → Option (List ℕ) → Type 0
KeepsTokens None new = new ≡ None
KeepsTokens (Some old) (Some new) = (new ≡ old) ⊎ (old ≡ [])
KeepsTokens (Some old) None = ⊥

pub record KeepsInner (old new : Inner) : Type 0 where
  pub held : new.held ≡ old.held
  pub tokens : KeepsTokens old.closing new.closing
  pub told : new.told ≡ old.told

-- a handle is closed once all was ended and told; else what is behind it is as before
abbrev pub Closes : Option Inner → Option Inner → ℕ → Type 0
Closes None new status = (new ≡ None) × (status ≡ OK)
Closes (Some old) None status = (status ≡ OK) × ((old.held ≡ None) × IfSome old.closing (λ tokens. tokens ≡ []))
Closes (Some old) (Some new) status = (status ≡ MORE) × KeepsInner old new
