-- What carrying out a job is, from its beginning to its end.
use Rattle.std.specs.Prelude.{◌≡◌, ◌≢◌, ℕ, ◌+◌, ◌≤◌, Option, Some, None, string_bytes}
use Rattle.streams.specs.RisingCounts.{Rises}
use Rattle.cache_trait.specs.CacheCalls.{CacheCall}
use Rattle.exchange.specs.Request.{request_text}
use Rattle.exchange.specs.Answers.{text_of}
use Rattle.exchange.specs.Dialling.{DialShown}
use Rattle.exchange.specs.Worlds.{World}
use Rattle.exchange.specs.Since.{since}
use Rattle.exchange.specs.Exchanging.{Stands, Closes, Cancels, IsFinished}
use Rattle.exchange.specs.declared.job.Job.{Job}
use Rattle.exchange.specs.declared.job.Prepared.{Prepared}
use Rattle.exchange.specs.declared.job_run.JobRun.{JobRun}
use Rattle.exchange.specs.declared.job_run.JobStop.{JobStop}
use Rattle.exchange.specs.declared.job_run.JobStop.TheVariants.{Control, TurnFailed}
use Rattle.exchange.specs.declared.state.State.{State}
use Rattle.exchange.specs.declared.done.Done.{Done}

-- this is that job's: what is asked for where, by whom and how
pub record IsForJob (job : Job) (p : Prepared) : Type 0 where
  pub site : p.site ≡ job.site
  pub want : p.want ≡ job.want
  pub method : p.method ≡ job.method
  pub text : text_of p ≡ request_text job.method (string_bytes job.target.path) (string_bytes job.target.host) job.target.port job.want.forbid_reuse

-- a transfer of that job, begun at the cache as it was, led to where it stood, and ended there: with what it came to, or
-- cancelled at a moment that the clock told
pub record CarriesOut {C W : Type 0} (did : C → C → CacheCall W → Type 0) (world : World W) (job : Job) (before after : C) (done : Done) : Type 0 where
  pub parts : Prepared
  pub its : IsForJob job parts
  pub last : C
  pub state : Option (State W)
  pub stands : Stands did world parts (since before) last state
  pub moment : ℕ
  pub told : world.tells moment
  pub closed : Closes done state
  pub ends : Cancels did last after moment state

-- once a transfer was carried out, it has opened one connection at most, and nothing is begun for it at the dial, if
-- nothing was before; for no other anything was begun, and what was begun for others still is
pub record EndsItsDials (old new : DialShown) (transfer : ℕ) : Type 0 where
  pub opens : new.opened ≤ old.opened + 1
  pub others : (other : ℕ) → other ≢ transfer → new.begun other → old.begun other
  pub kept : (other : ℕ) → other ≢ transfer → old.begun other → new.begun other
  pub own : (old.begun transfer → ⊥) → new.begun transfer → ⊥

-- why a job stopped: its control may stop it for that reason, or a turn of the dial failed; if nothing stopped it, this
-- holds
abbrev pub StopsBy : {R : Type 0} → (R → Type 0) → Type 0 → Option (JobStop R) → Type 0
StopsBy stops_for ended None = ended
StopsBy stops_for ended (Some (Control reason)) = stops_for reason
StopsBy stops_for ended (Some TurnFailed) = Unit {0}

-- the count of failed turns rises if a failed turn stopped the job, and only then
abbrev pub CountsStop : {R : Type 0} → Option (JobStop R) → ℕ → ℕ → Type 0
CountsStop (Some TurnFailed) old new = Rises old new
CountsStop _ old new = new ≡ old

-- a run carried the job out, and its request was tried once more if the run says so, and only then; the transfer had
-- ended, or was stopped as the run says
pub record RunsJob {C W R : Type 0} (did : C → C → CacheCall W → Type 0) (world : World W) (stops_for : R → Type 0) (job : Job) (before after : C) (ran : JobRun R) : Type 0 where
  pub carried : CarriesOut did world job before after ran.done
  pub retried : ran.retried ≡ carried.parts.retried
  pub stops : StopsBy stops_for (IsFinished carried.state) ran.stop
