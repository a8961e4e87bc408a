-- What was done at a cache for the jobs of a run, each call with the number of its job, the newest first.
use Rattle.std.specs.Prelude.{ℕ, ◌==◌, List, map}
use Rattle.std.specs.List.{filter}
use Rattle.cache_trait.specs.CacheCalls.{CacheCall}

-- the calls, whichever jobs they were done for
abbrev pub calls_of : {W : Type 0} → List (ℕ × CacheCall W) → List (CacheCall W)
calls_of {W} all = map (λ (call : ℕ × CacheCall W). call.1) all

-- those that were done for the job of that number
abbrev pub calls_for : {W : Type 0} → ℕ → List (ℕ × CacheCall W) → List (CacheCall W)
calls_for {W} number all = calls_of (filter (λ (call : ℕ × CacheCall W). number == call.0) all)

-- calls that were all done for the job of that number
abbrev pub all_for : {W : Type 0} → ℕ → List (CacheCall W) → List (ℕ × CacheCall W)
all_for {W} number calls = map (λ (call : CacheCall W). (number, call)) calls
