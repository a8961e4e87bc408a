-- A job that was carried out has the result that its transfer ended with.
use Rattle.std.proofs.Common.{◌≡◌, refl, sym, subst, ◌∙◌, ℕ, ◌⊎◌, inl, inr, List, [], ◌∷◌, ◌++◌, Option, Some, None, IsSomeAnd}
use Rattle.std.specs.Prelude.{slice_get, IfNone, IfOk, Result, Ok, Err}
use Rattle.cache_trait.specs.CacheCalls.{CacheCall}
use Rattle.exchange.specs.declared.job.Job.{Job}
use Rattle.exchange.specs.declared.job.Prepared.{Prepared}
use Rattle.exchange.specs.declared.done.Fault.TheVariants.{Memory, Dial, Read, Write, BadResponse, Cut, Refused, Cancelled}
use Rattle.exchange.specs.declared.done.Done.{Done}
use Rattle.exchange.specs.declared.done.Done.TheVariants.{Good, Bad}
use Rattle.exchange.specs.declared.job_run.JobStop.{JobStop}
use Rattle.exchange.specs.declared.job_run.JobStop.TheVariants.{Control, TurnFailed}
use Rattle.exchange.specs.declared.state.State.{State}
use Rattle.exchange.specs.declared.state.State.TheVariants as at
use Rattle.exchange.specs.Worlds.{World}
use Rattle.exchange.specs.Since.{Outset, since}
use Rattle.exchange.specs.Standing.{Ends}
use Rattle.exchange.specs.Exchanging.{Stands, Closes, IsFinished}
use Rattle.exchange.specs.Carrying.{IsForJob, CarriesOut, StopsBy, CountsStop}
use Rattle.driver.specs.declared.quit.Quit.{Quit}
use Rattle.driver.specs.declared.stopped.Stopped.{Stopped}
use Rattle.driver.specs.declared.stopped.Stopped.TheVariants as stopped
use Rattle.driver.specs.Quits.{QuitsOn, MayStop, answer_at}
use Rattle.driver.specs.Results.{IsResultOf, CarriesOutAt, CarriesOutAll}

module _ {C W : Type 0} (did : C → C → CacheCall W → Type 0) (world : World W) where
  -- what a transfer ended with is a result; no transfer ends as cancelled by itself
  end_is : (may_stop : Type 0) (job : Job) (parts : Prepared) (done : Done) (calls : List (CacheCall W)) → IsForJob job parts → Ends world parts done calls → IsResultOf world may_stop job done
  end_is may_stop job parts (Good answer) calls its ends = record { parts = parts; its = its; calls = calls; ends = ends }
  end_is may_stop job parts (Bad Memory) calls its ends = absurd ends
  end_is may_stop job parts (Bad Dial) calls its ends = record { parts = parts; its = its; calls = calls; ends = ends }
  end_is may_stop job parts (Bad Read) calls its ends = record { parts = parts; its = its; calls = calls; ends = ends }
  end_is may_stop job parts (Bad Write) calls its ends = record { parts = parts; its = its; calls = calls; ends = ends }
  end_is may_stop job parts (Bad BadResponse) calls its ends = record { parts = parts; its = its; calls = calls; ends = ends }
  end_is may_stop job parts (Bad Cut) calls its ends = record { parts = parts; its = its; calls = calls; ends = ends }
  end_is may_stop job parts (Bad (Refused refusal)) calls its ends = record { parts = parts; its = its; calls = calls; ends = ends }
  end_is may_stop job parts (Bad Cancelled) calls its ends = absurd ends

  -- a transfer that is closed has ended, or was stopped
  stopped_is : (may_stop : Type 0) (job : Job) (done : Done) → done ≡ Bad Cancelled → may_stop → IsResultOf world may_stop job done
  stopped_is may_stop job done is stop = subst (λ (d : Done). IsResultOf world may_stop job d) (sym is) stop

  closed_at : (may_stop : Type 0) (job : Job) (parts : Prepared) (first : Outset C W) (cache : C) (done : Done) (state : State W)
      → Stands did world parts first cache (Some state) → Closes done (Some state) → IsFinished (Some state) ⊎ may_stop → IsForJob job parts → IsResultOf world may_stop job done
  closed_at may_stop job parts first cache done (at.Finished end) stands closed over its =
      subst (λ (d : Done). IsResultOf world may_stop job d) (sym closed) (end_is may_stop job parts end stands.0 its stands.2)
  closed_at may_stop job parts first cache done _ stands closed (inr stop) its = stopped_is may_stop job done closed stop
  closed_at may_stop job parts first cache done at.Asking stands closed (inl over) its = cc over.1
  closed_at may_stop job parts first cache done (at.Waiting ticket) stands closed (inl over) its = cc over.1
  closed_at may_stop job parts first cache done (at.Dialling lease) stands closed (inl over) its = cc over.1
  closed_at may_stop job parts first cache done (at.Sending lease sent) stands closed (inl over) its = cc over.1
  closed_at may_stop job parts first cache done (at.Reading lease) stands closed (inl over) its = cc over.1

  closed_is : (may_stop : Type 0) (job : Job) (parts : Prepared) (first : Outset C W) (cache : C) (done : Done) (state : Option (State W))
      → Stands did world parts first cache state → Closes done state → IsFinished state ⊎ may_stop → IsForJob job parts → IsResultOf world may_stop job done
  closed_is may_stop job parts first cache done (Some state) stands closed over its = closed_at may_stop job parts first cache done state stands closed over its
  closed_is may_stop job parts first cache done None stands closed over its = absurd stands

  carried_is : (may_stop : Type 0) (job : Job) (before after : C) (done : Done) (carried : CarriesOut did world job before after done) → IsFinished carried.state ⊎ may_stop → IsResultOf world may_stop job done
  carried_is may_stop job before after done carried over = closed_is may_stop job carried.parts (since before) carried.last done carried.state carried.stands carried.closed over carried.its

  -- what a worker answers of a job that was carried out is a result of it
  pub answered_is : (may_stop : Type 0) (job : Job) (before after : C) (done : Done) (stop : Option (JobStop Stopped)) (carried : CarriesOut did world job before after done)
      → StopsBy (MayStop may_stop) (IsFinished carried.state) stop → IfOk (answer_at done stop) (IsResultOf world may_stop job)
  answered_is may_stop job before after done None carried stops = carried_is may_stop job before after done carried (inl stops)
  answered_is may_stop job before after done (Some (Control stopped.Gate)) carried stops = carried_is may_stop job before after done carried (inr stops)
  answered_is may_stop job before after done (Some (Control stopped.Told)) carried stops = tt
  answered_is may_stop job before after done (Some TurnFailed) carried stops = tt

  -- and it was carried out so
  pub answered_carried : (job : Job) (before after : C) (done : Done) (stop : Option (JobStop Stopped)) → CarriesOut did world job before after done → IfOk (answer_at done stop) (CarriesOut did world job before after)
  answered_carried job before after done None carried = carried
  answered_carried job before after done (Some (Control stopped.Gate)) carried = carried
  answered_carried job before after done (Some (Control stopped.Told)) carried = tt
  answered_carried job before after done (Some TurnFailed) carried = tt

  -- one job more was carried out behind the others
  pub carried_more : (jobs : List Job) (before middle after : C) (results : List (ℕ × Done)) (number : ℕ) (done : Done)
      → CarriesOutAll did world jobs before middle results → CarriesOutAt did world jobs number middle after done → CarriesOutAll did world jobs before after (results ++ (number, done) ∷ [])
  carried_more jobs before middle after [] number done all one = (after, subst (λ (c : C). CarriesOutAt did world jobs number c after done) all one, refl)
  carried_more jobs before middle after (first ∷ others) number done all one = (all.0, all.1, carried_more jobs all.0 middle after others number done all.2 one)

-- the count of failed turns says whether a failed turn made the worker give up
pub answered_turns : (done : Done) (stop : Option (JobStop Stopped)) (old new : ℕ) → CountsStop stop old new → QuitsOn (answer_at done stop) old new
answered_turns done None old new counts = counts
answered_turns done (Some (Control stopped.Gate)) old new counts = counts
answered_turns done (Some (Control stopped.Told)) old new counts = counts
answered_turns done (Some TurnFailed) old new counts = counts

-- what follows where there is nothing
pub if_none : {X : Type 0} {P Q : Type 0} (given : Option X) → (P → Q) → IfNone given P → IfNone given Q
if_none None follows is = follows is
if_none (Some x) follows is = tt

-- of the job at its number
pub at_number : (P : Job → Type 0) (jobs : List Job) (number : ℕ) (job : Job) → slice_get jobs number ≡ Some job → P job → IsSomeAnd (slice_get jobs number) P
at_number P jobs number job at holds = subst (λ (there : Option Job). IsSomeAnd there P) (sym at) holds

-- the same of what is answered, if a job has ended
pub answered_at : (P : Job → Done → Type 0) (jobs : List Job) (number : ℕ) (job : Job) → slice_get jobs number ≡ Some job → (answered : Result Done Quit) → IfOk answered (P job)
    → IfOk answered (λ done. IsSomeAnd (slice_get jobs number) (λ job. P job done))
answered_at P jobs number job at (Ok done) holds = at_number (λ job. P job done) jobs number job at holds
answered_at P jobs number job at (Err quit) holds = tt
