-- Sites of a load whose hosts the system does not know.
use Rattle.std.proofs.Common.{◌≡◌, ◌<◌, ℕ, List, ◌⊎◌, length, get_or, sym, subst, inl, Result, Ok, Err}
use Rattle.std.specs.Prelude.{IfOk}
use Rattle.commands.specs.declared.resolved.Resolved.{Resolved}
use Rattle.exchange.specs.declared.job.Job.{Job}
use Rattle.load_run.specs.LoadSites.{IsUnknownAt, IsUnknownIn}
use Rattle.load_run.specs.declared.load.sites.SiteFault.{SiteFault}
use Rattle.load_run.specs.declared.load.sites.SiteFault.TheVariants.{Memory, Unknown}

pub if_ok_left : {A E : Type 0} (r : Result A E) (P Q : A → Type 0) → IfOk r P → IfOk r (λ a. P a ⊎ Q a)
if_ok_left (Ok a) P Q holds = inl holds
if_ok_left (Err error) P Q holds = tt

-- the same of the same jobs and addresses
pub unknown_of : (jobs others : List Job) (resolved given : List Resolved) (fault : SiteFault) → others ≡ jobs → given ≡ resolved → IsUnknownIn others given fault → IsUnknownIn jobs resolved fault
unknown_of jobs others resolved given fault same equal is = subst (λ (l : List Job). IsUnknownIn l resolved fault) same (subst (λ (l : List Resolved). IsUnknownIn others l fault) equal is)

-- one of these jobs is for the site
pub unknown_in : (jobs : List Job) (place : ℕ) (job : Job) (resolved : List Resolved) (fault : SiteFault) → place < length jobs → job ≡ get_or jobs place job → IsUnknownAt job.target resolved fault → IsUnknownIn jobs resolved fault
unknown_in jobs place job resolved Memory below there is = tt
unknown_in jobs place job resolved (Unknown host) below there is = (job, (place, below, sym there), is)
