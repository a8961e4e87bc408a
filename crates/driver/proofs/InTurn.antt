-- Jobs that are carried out one after another are a run: each of its calls has the number of its job.
use Rattle.std.proofs.Common.{◌≡◌, refl, sym, subst, ap, ◌∙◌, ℕ, ◌<◌, List, [], ◌∷◌, ◌++◌, Option, Some, None, IsSomeAnd, arith}
use Rattle.std.specs.Prelude.{slice_get}
use Rattle.std.specs.List.{All}
use Rattle.std.proofs.lemmas.List.{append_assoc}
use Rattle.std.proofs.lemmas.List.Elements.{All-head, All-tail, All-push}
use Rattle.std.proofs.lemmas.Option.{get_or_from_slice_get}
use Rattle.run_loop.specs.Draws.{times}
use Rattle.cache_trait.specs.CacheCalls.{CacheCall}
use Rattle.exchange.specs.declared.job.Job.{Job}
use Rattle.exchange.specs.declared.job.Prepared.{Prepared}
use Rattle.exchange.specs.declared.done.Done.{Done}
use Rattle.exchange.specs.declared.done.Done.TheVariants.{Bad}
use Rattle.exchange.specs.declared.done.Fault.TheVariants.{Cancelled}
use Rattle.exchange.specs.declared.state.State.{State}
use Rattle.exchange.specs.declared.state.State.TheVariants as at
use Rattle.exchange.specs.Worlds.{World}
use Rattle.exchange.specs.Since.{since}
use Rattle.exchange.specs.Standing.{StandsFrom}
use Rattle.exchange.specs.Exchanging.{Stands, Closes, ClosesAt, Cancels, CancelsAt}
use Rattle.exchange.specs.Carrying.{IsForJob, CarriesOut}
use Rattle.run_loop.specs.LoopCalls.{calls_for, all_for}
use Rattle.run_loop.specs.Endings.{EndsFor}
use Rattle.run_loop.specs.Running.{numbers_of, IsCarriedOut, IsRunning}
use Rattle.run_loop.proofs.Numbers.{times_both, times_cons}
use Rattle.run_loop.proofs.Labels.{own_upon, done_upon}
use Rattle.run_loop.proofs.Beside.{is_drawn, goes_on_beside, has_ended}
use Rattle.run_loop.proofs.Stories.{LeadsToEnd, end_is, closed_so}
use Rattle.run_loop.proofs.Going.{running_first}
use Rattle.driver.specs.Results.{IsResultOf, IsResultAt, CarriesOutAt, job_in, RunsInTurn}
use Rattle.driver.proofs.Carried.{carried_more}
use Rattle.driver.proofs.Collected.{numbers_both}

-- a job that was carried out ended by all that was done for it
module _ {C W : Type 0} (did : C → C → CacheCall W → Type 0) (world : World W) (may_stop : Type 0) (job : Job) (before last after : C) (moment : ℕ) (told : world.tells moment) where
  -- its transfer was closed before it had ended
  stopped : (parts : Prepared) (state : State W) (done : Done) → IsForJob job parts → StandsFrom did world parts (since before) last state → ClosesAt done state → CancelsAt did last after moment state → may_stop
      → LeadsToEnd did world may_stop job before after [] done
  stopped parts state done its stands closed cancels may =
      let earlier = stands.0 in
      let was = stands.1 in
      let end = closed_so did world may_stop may job parts its last after earlier moment told (Some state) done stands.2 cancels closed in
      let all : end.own ++ earlier ≡ (end.own ++ was.own) ++ [] = ap (λ (calls : List (CacheCall W)). end.own ++ calls) was.all ∙ sym (append_assoc end.own was.own []) in
      record {
        own = end.own ++ was.own;
        did_own = done_upon did before last after end.own was.own was.done end.did_own;
        ends = subst (λ (calls : List (CacheCall W)). EndsFor world may_stop job done calls) all end.ends;
      }

  -- or it had ended
  ended : (parts : Prepared) (end done : Done) → IsForJob job parts → StandsFrom did world parts (since before) last (at.Finished end) → done ≡ end → after ≡ last → LeadsToEnd did world may_stop job before after [] done
  ended parts end done its stands closed same =
      let was = stands.1 in
      let ends : EndsFor world may_stop job end (was.own ++ []) = subst (λ (calls : List (CacheCall W)). EndsFor world may_stop job end calls) was.all (end_is did world may_stop job parts end stands.0 its stands.2) in
      record {
        own = was.own;
        did_own = done_upon did before last after [] was.own was.done same;
        ends = subst (λ (d : Done). EndsFor world may_stop job d (was.own ++ [])) (sym closed) ends;
      }

  -- a job that ended as cancelled may be stopped
  may_be_stopped : (done : Done) → done ≡ Bad Cancelled → IsResultOf world may_stop job done → may_stop
  may_be_stopped done is result = subst (λ (d : Done). IsResultOf world may_stop job d) is result

  closed_at : (parts : Prepared) (state : State W) (done : Done) → IsForJob job parts → StandsFrom did world parts (since before) last state → ClosesAt done state → CancelsAt did last after moment state → IsResultOf world may_stop job done
      → LeadsToEnd did world may_stop job before after [] done
  closed_at parts (at.Finished end) done its stands closed cancels result = ended parts end done its stands closed cancels
  closed_at parts at.Asking done its stands closed cancels result = stopped parts at.Asking done its stands closed cancels (may_be_stopped done closed result)
  closed_at parts (at.Waiting ticket) done its stands closed cancels result = stopped parts (at.Waiting ticket) done its stands closed cancels (may_be_stopped done closed result)
  closed_at parts (at.Dialling lease) done its stands closed cancels result = stopped parts (at.Dialling lease) done its stands closed cancels (may_be_stopped done closed result)
  closed_at parts (at.Sending lease sent) done its stands closed cancels result = stopped parts (at.Sending lease sent) done its stands closed cancels (may_be_stopped done closed result)
  closed_at parts (at.Reading lease) done its stands closed cancels result = stopped parts (at.Reading lease) done its stands closed cancels (may_be_stopped done closed result)

  closed : (parts : Prepared) (state : Option (State W)) (done : Done) → IsForJob job parts → Stands did world parts (since before) last state → Closes done state → Cancels did last after moment state → IsResultOf world may_stop job done
      → LeadsToEnd did world may_stop job before after [] done
  closed parts (Some state) done its stands closes cancels result = closed_at parts state done its stands closes cancels result
  closed parts None done its stands closes cancels result = absurd stands

-- a result of a run may be told last as well as first
told_last : {C W : Type 0} (did : C → C → CacheCall W → Type 0) (world : World W) (may_stop : ℕ → Type 0) (job_at : ℕ → Job) (first cache : C) (drawn : List ℕ) (results : List (ℕ × Done)) (number : ℕ) (done : Done)
    → IsRunning did world may_stop job_at first cache drawn [] ((number, done) ∷ results) → IsRunning did world may_stop job_at first cache drawn [] (results ++ (number, done) ∷ [])
told_last did world may_stop job_at first cache drawn results number done run =
    let Each : ℕ × Done → Type 0 = λ r. IsCarriedOut world may_stop job_at run.all r.0 r.1 in
    record {
      all = run.all;
      done = run.done;
      under_way = run.under_way;
      carried = All-push Each results (number, done) (All-tail Each (number, done) results run.carried) (All-head Each (number, done) results run.carried);
      counted = λ other. (let counted = run.counted other in let cons = times_cons other number (numbers_of results) in let push = ap (times other) (numbers_both results ((number, done) ∷ [])) ∙ times_both other (numbers_of results) (number ∷ []) in omega (arith, counted, cons, push));
      once = run.once;
      none_else = run.none_else;
    }

module _ {C W : Type 0} (did : C → C → CacheCall W → Type 0) (world : World W) (may_stop : ℕ → Type 0) (jobs : List Job) where
  leads_to_end : (other : Job) (number : ℕ) (before after : C) (done : Done) (found : Option Job) → slice_get jobs number ≡ found → IsSomeAnd found (λ job. CarriesOut did world job before after done) → IsSomeAnd found (λ job. IsResultOf world (may_stop number) job done)
      → LeadsToEnd did world (may_stop number) (job_in jobs other number) before after [] done
  leads_to_end other number before after done (Some job) is carried result =
      let leads = closed did world (may_stop number) job before carried.last after carried.moment carried.told carried.parts carried.state done carried.its carried.stands carried.closed carried.ends result in
      subst (λ (j : Job). LeadsToEnd did world (may_stop number) j before after [] done) (sym (get_or_from_slice_get jobs number job other is)) leads
  leads_to_end other number before after done None is carried result = absurd carried

  -- what was done for one job more has its number
  running_more : (other : Job) (first before after : C) (results : List (ℕ × Done)) (number : ℕ) (done : Done) → All (λ n. n < number) (numbers_of results) → CarriesOutAt did world jobs number before after done → IsResultAt world may_stop jobs number done
      → IsRunning did world may_stop (job_in jobs other) first before (numbers_of results) [] results → IsRunning did world may_stop (job_in jobs other) first after (numbers_of (results ++ (number, done) ∷ [])) [] (results ++ (number, done) ∷ [])
  running_more other first before after results number done above carried result run =
      let job_at = job_in jobs other in
      let drawn = numbers_of results ++ number ∷ [] in
      let leads = leads_to_end other number before after done (slice_get jobs number) refl carried result in
      let new = is_drawn did world may_stop job_at first before (numbers_of results) number [] [] results above run in
      let all = all_for number leads.own ++ run.all in
      let beside = goes_on_beside did world may_stop job_at first drawn number [] [] results before after leads.own run.all new.1 leads.did_own in
      let its : calls_for number all ≡ leads.own ++ [] = own_upon number leads.own run.all ∙ ap (λ (calls : List (CacheCall W)). leads.own ++ calls) new.0 in
      let ends : IsCarriedOut world may_stop job_at all number done = subst (λ (calls : List (CacheCall W)). EndsFor world (may_stop number) (job_at number) done calls) (sym its) leads.ends in
      let more = told_last did world may_stop job_at first after drawn results number done (has_ended did world may_stop job_at first drawn number [] [] results after all beside done ends) in
      subst (λ (numbers : List ℕ). IsRunning did world may_stop job_at first after numbers [] (results ++ (number, done) ∷ [])) (sym (numbers_both results ((number, done) ∷ []))) more

  -- nothing was done yet
  pub none_in_turn : (cache : C) → RunsInTurn did world may_stop jobs cache cache []
  none_in_turn cache = record { running = λ other. running_first did world may_stop (job_in jobs other) cache; in_turn = refl }

  -- one job more was carried out
  pub more_in_turn : (first before after : C) (results : List (ℕ × Done)) (number : ℕ) (done : Done) → All (λ n. n < number) (numbers_of results) → CarriesOutAt did world jobs number before after done → IsResultAt world may_stop jobs number done
      → RunsInTurn did world may_stop jobs first before results → RunsInTurn did world may_stop jobs first after (results ++ (number, done) ∷ [])
  more_in_turn first before after results number done above carried result so_far = record {
    running = λ other. running_more other first before after results number done above carried result (so_far.running other);
    in_turn = carried_more did world jobs first before after results number done so_far.in_turn carried;
  }
