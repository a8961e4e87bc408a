-- Fetches of single URLs.
use Rattle.std.specs.Prelude.{◌≡◌, ◌⊎◌, false}
use Rattle.cache_trait.specs.CacheCalls.{CacheCall}
use Rattle.exchange.specs.Worlds.{World}
use Rattle.exchange.specs.Carrying.{CarriesOut}
use Rattle.exchange.specs.declared.job.Job.{Job}
use Rattle.exchange.specs.declared.done.Done.TheVariants.{Bad}
use Rattle.exchange.specs.declared.done.Fault.TheVariants.{Memory}
use Rattle.client.specs.declared.fetched.Fetched.{Fetched}

-- the job was carried out; its request was sent again if and only if the fetch records it
abbrev pub CarriesOutWithRetry : {C W : Type 0} → (C → C → CacheCall W → Type 0) → World W → Job → C → C → Fetched → Type 0
CarriesOutWithRetry did world job before after fetched =
    (carried : CarriesOut did world job before after fetched.done) × (fetched.retried ≡ carried.parts.retried)

-- the job was carried out; or there was no memory to prepare it, and nothing was done
abbrev pub Fetches : {C W : Type 0} → (C → C → CacheCall W → Type 0) → World W → Job → C → C → Fetched → Type 0
Fetches did world job before after fetched =
    CarriesOutWithRetry did world job before after fetched ⊎ ((fetched ≡ record { done = Bad Memory; retried = false }) × (after ≡ before))
