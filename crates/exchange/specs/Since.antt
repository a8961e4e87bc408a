-- What a cache did since some time, told upon what it had done before.
use Rattle.std.specs.Prelude.{◌≡◌, List, [], ◌++◌}
use Rattle.cache_trait.specs.CacheCalls.{CacheCall, AllDone}

-- where something is told from: a cache, and what had been done for a transfer by then, the newest first
pub record Outset (C W : Type 0) : Type 0 where
  pub cache : C
  pub told : List (CacheCall W)

-- from there on the cache did its own calls, and nothing else; with those before them they are all
pub record DoneSince {C W : Type 0} (did : C → C → CacheCall W → Type 0) (first : Outset C W) (cache : C) (calls : List (CacheCall W)) : Type 0 where
  pub own : List (CacheCall W)
  pub all : calls ≡ own ++ first.told
  pub done : AllDone did first.cache cache own

-- from that cache on, where nothing had been done
abbrev pub since : {C W : Type 0} → C → Outset C W
since cache = record { cache = cache; told = [] }
