-- A run goes on: by a job that is drawn and joins, a poll, a round, an end, and a close.
use Rattle.std.proofs.Common.{◌≡◌, refl, sym, subst, ap, ◌∙◌, ℕ, ◌<◌, List, [], ◌∷◌, ◌++◌, arith, Option, Some, None, IsSomeAnd}
use Rattle.std.specs.List.{All}
use Rattle.std.proofs.lemmas.List.{append-nil}
use Rattle.std.proofs.lemmas.List.Elements.{All-nil}
use Rattle.bundle.specs.Seats.{Tables}
use Rattle.conn_log.specs.declared.entry.Want.{Want}
use Rattle.cache_trait.specs.CacheCalls.{CacheCall}
use Rattle.exchange.specs.Dialling.{DialShown}
use Rattle.exchange.specs.declared.job.Job.{Job}
use Rattle.exchange.specs.declared.job.Prepared.{Prepared}
use Rattle.exchange.specs.declared.done.Done.{Done}
use Rattle.transfer_slab.specs.declared.ended.Ended.{Ended}
use Rattle.exchange.specs.Transfers.{TransferShown}
use Rattle.exchange.specs.Answers.{IsPrepared}
use Rattle.exchange.specs.Worlds.{World}
use Rattle.exchange.specs.Standing.{StandsAt}
use Rattle.exchange.specs.Exchanging.{Closes, Cancels}
use Rattle.exchange.specs.Carrying.{IsForJob}
use Rattle.transfer_slab.specs.Slabs.{ClosesOne, ClosesPlace, transfers_in}
use Rattle.transfer_slab.specs.Rounds.{Joins, PollsPlace, PollsPlaces, PollsInTurn}
use Rattle.run_loop.specs.LoopCalls.{calls_for, all_for}
use Rattle.run_loop.specs.Endings.{EndsFor}
use Rattle.run_loop.specs.Running.{number_of, IsUnderWay, IsRunning}
use Rattle.run_loop.proofs.Labels.{own_upon}
use Rattle.run_loop.proofs.Beside.{taken_out, goes_on_beside, put_back, has_ended, is_drawn}
use Rattle.run_loop.proofs.Places.{stands_between, comes_between}
use Rattle.run_loop.proofs.Stories.{LeadsToEnd, prepared_for, same_job, polled_on, ended_so, closed_so, begins_so}

module _ {C W : Type 0} (does : C → C → CacheCall W → Type 0) (world : World W) (may_stop : ℕ → Type 0) (job_at : ℕ → Job) where
  -- nothing was drawn, and nothing was done
  pub running_first : (cache : C) → IsRunning does world may_stop job_at cache cache [] [] []
  running_first cache = record {
    all = [];
    done = refl;
    under_way = All-nil (λ (t : TransferShown W). IsUnderWay world (job_at (number_of t)) (number_of t) [] t);
    carried = All-nil (λ (r : ℕ × Done). EndsFor world (may_stop r.0) (job_at r.0) r.1 (calls_for {W = W} r.0 []));
    counted = λ number. refl;
    once = λ number. omega arith;
    none_else = λ number none. refl;
  }

  module _ (first : C) where
    -- a job is drawn and joins the slab
    pub running_join : (cache : C) (drawn : List ℕ) (results : List (ℕ × Done)) (number : ℕ) (parts : Prepared) (slots more : List (Option (TransferShown W))) (place : ℕ) → All (λ k. k < number) drawn → IsPrepared (job_at number) parts → parts.want.transfer ≡ number → Joins slots more parts place
        → IsRunning does world may_stop job_at first cache drawn (transfers_in slots) results → IsRunning does world may_stop job_at first cache (drawn ++ number ∷ []) (transfers_in more) results
    running_join cache drawn results number parts slots more place above prepared bears joins run =
        let comes = comes_between slots more joins.transfer place joins.stands in
        let there : IsRunning does world may_stop job_at first cache drawn (comes.front ++ comes.back) results = subst (λ (l : List (TransferShown W)). IsRunning does world may_stop job_at first cache drawn l results) comes.before run in
        let beside = is_drawn does world may_stop job_at first cache drawn number comes.front comes.back results above there in
        let its : IsForJob (job_at number) joins.transfer.parts = subst (IsForJob (job_at number)) (sym joins.its) (prepared_for (job_at number) parts prepared) in
        let stands : IsSomeAnd joins.transfer.state (λ state. StandsAt world joins.transfer.parts state (calls_for number there.all)) =
        subst (λ (calls : List (CacheCall W)). IsSomeAnd joins.transfer.state (λ state. StandsAt world joins.transfer.parts state calls)) (sym beside.0) (begins_so world (job_at number) parts joins.transfer.parts joins.transfer.state prepared joins.its joins.begins) in
        let same : number_of joins.transfer ≡ number = ap (λ (p : Prepared). p.want.transfer) joins.its ∙ bears in
        subst (λ (l : List (TransferShown W)). IsRunning does world may_stop job_at first cache (drawn ++ number ∷ []) l results) (sym comes.after)
        (put_back does world may_stop job_at first (drawn ++ number ∷ []) number comes.front comes.back results cache there.all beside.1 joins.transfer same (record { its = its; stands = stands }))

    -- a job is drawn and has a result, and nothing was done for it
    pub running_without : (cache : C) (drawn : List ℕ) (results : List (ℕ × Done)) (number : ℕ) (done : Done) (transfers : List (TransferShown W)) → All (λ k. k < number) drawn → EndsFor {W = W} world (may_stop number) (job_at number) done []
        → IsRunning does world may_stop job_at first cache drawn transfers results → IsRunning does world may_stop job_at first cache (drawn ++ number ∷ []) transfers ((number, done) ∷ results)
    running_without cache drawn results number done transfers above ends run =
        let beside = is_drawn does world may_stop job_at first cache drawn number [] transfers results above run in
        has_ended does world may_stop job_at first (drawn ++ number ∷ []) number [] transfers results cache run.all beside.1 done (subst (λ (calls : List (CacheCall W)). EndsFor world (may_stop number) (job_at number) done calls) (sym beside.0) ends)

    -- a transfer between those was polled, or closed, which led to an end
    ends_between : (before after : C) (drawn : List ℕ) (results : List (ℕ × Done)) (front back : List (TransferShown W)) (t : TransferShown W) (done : Done) → (run : IsRunning does world may_stop job_at first before drawn (front ++ t ∷ back) results)
        → LeadsToEnd does world (may_stop (number_of t)) (job_at (number_of t)) before after (calls_for (number_of t) run.all) done → IsRunning does world may_stop job_at first after drawn (front ++ back) ((number_of t, done) ∷ results)
    ends_between before after drawn results front back t done run leads =
        let number = number_of t in
        let out = taken_out does world may_stop job_at first before drawn front back t results run in
        let beside = goes_on_beside does world may_stop job_at first drawn number front back results before after leads.own run.all out.1 leads.did_own in
        let ends = subst (λ (calls : List (CacheCall W)). EndsFor world (may_stop number) (job_at number) done calls) (sym (own_upon number leads.own run.all)) leads.ends in
        has_ended does world may_stop job_at first drawn number front back results after (all_for number leads.own ++ run.all) beside done ends

    module _ {D : Type 0} (shown : D → DialShown) (before after : C) (old new : D) (drawn : List ℕ) (results : List (ℕ × Done)) (slots left : List (Option (TransferShown W))) (place : ℕ) (run : IsRunning does world may_stop job_at first before drawn (transfers_in slots) results) where
      -- a transfer was polled and has not ended
      pub running_poll : PollsPlace does world shown before after old new slots left place None → IsRunning does world may_stop job_at first after drawn (transfers_in left) results
      running_poll polls =
          let t = polls.transfer in
          let number = number_of t in
          let stands = stands_between slots place t polls.stood in
          let there : IsRunning does world may_stop job_at first before drawn (stands.front ++ t ∷ stands.back) results = subst (λ (l : List (TransferShown W)). IsRunning does world may_stop job_at first before drawn l results) stands.whole run in
          let out = taken_out does world may_stop job_at first before drawn stands.front stands.back t results there in
          let leads = polled_on does world t.parts polls.next.parts before after (calls_for number there.all) t.state polls.next.state polls.polled.story out.0.stands in
          let beside = goes_on_beside does world may_stop job_at first drawn number stands.front stands.back results before after leads.own there.all out.1 leads.done in
          let same : number_of polls.next ≡ number = ap (λ (w : Want). w.transfer) polls.polled.same.want in
          let its = same_job (job_at number) t.parts polls.next.parts out.0.its polls.polled.same in
          let now : IsSomeAnd polls.next.state (λ state. StandsAt world polls.next.parts state (calls_for number (all_for number leads.own ++ there.all))) =
          subst (λ (calls : List (CacheCall W)). IsSomeAnd polls.next.state (λ state. StandsAt world polls.next.parts state calls)) (sym (own_upon number leads.own there.all)) leads.stands in
          let back = put_back does world may_stop job_at first drawn number stands.front stands.back results after (all_for number leads.own ++ there.all) beside polls.next same (record { its = its; stands = now }) in
          let whole : transfers_in left ≡ stands.front ++ polls.next ∷ stands.back = ap transfers_in polls.leaves.0 ∙ stands.with polls.next in
          subst (λ (l : List (TransferShown W)). IsRunning does world may_stop job_at first after drawn l results) (sym whole) back

      -- a transfer was polled and has ended
      pub running_end : (ended : Ended) → PollsPlace does world shown before after old new slots left place (Some ended) → IsRunning does world may_stop job_at first after drawn (transfers_in left) ((ended.parts.want.transfer, ended.done) ∷ results)
      running_end ended polls =
          let t = polls.transfer in
          let number = number_of t in
          let stands = stands_between slots place t polls.stood in
          let there : IsRunning does world may_stop job_at first before drawn (stands.front ++ t ∷ stands.back) results = subst (λ (l : List (TransferShown W)). IsRunning does world may_stop job_at first before drawn l results) stands.whole run in
          let out = taken_out does world may_stop job_at first before drawn stands.front stands.back t results there in
          let leads = polled_on does world t.parts polls.next.parts before after (calls_for number there.all) t.state polls.next.state polls.polled.story out.0.stands in
          let its = same_job (job_at number) t.parts polls.next.parts out.0.its polls.polled.same in
          let end = ended_so does world (may_stop number) (job_at number) polls.next.parts before after (calls_for number there.all) polls.next.state ended.done polls.leaves.1 its leads in
          let same : ended.parts.want.transfer ≡ number = ap (λ (p : Prepared). p.want.transfer) polls.leaves.2 ∙ ap (λ (w : Want). w.transfer) polls.polled.same.want in
          let whole : transfers_in left ≡ stands.front ++ stands.back = ap transfers_in polls.leaves.0 ∙ stands.without in
          subst (λ (n : ℕ). IsRunning does world may_stop job_at first after drawn (transfers_in left) ((n, ended.done) ∷ results)) (sym same)
          (subst (λ (l : List (TransferShown W)). IsRunning does world may_stop job_at first after drawn l ((number, ended.done) ∷ results)) (sym whole) (ends_between before after drawn results stands.front stands.back t ended.done there end))

    -- a transfer that may be stopped was closed between those
    closes_between : (before after : C) (drawn : List ℕ) (results : List (ℕ × Done)) (front back : List (TransferShown W)) (t : TransferShown W) (closed : Done × Prepared) (moment : ℕ) → world.tells moment → Cancels does before after moment t.state → Closes closed.0 t.state → closed.1 ≡ t.parts
        → may_stop (number_of t) → IsRunning does world may_stop job_at first before drawn (front ++ t ∷ back) results → IsRunning does world may_stop job_at first after drawn (front ++ back) ((closed.1.want.transfer, closed.0) ∷ results)
    closes_between before after drawn results front back t closed moment told cancels closes parts may run =
        let number = number_of t in
        let out = taken_out does world may_stop job_at first before drawn front back t results run in
        let end = closed_so does world (may_stop number) may (job_at number) t.parts out.0.its before after (calls_for number run.all) moment told t.state closed.0 out.0.stands cancels closes in
        let same : closed.1.want.transfer ≡ number = ap (λ (p : Prepared). p.want.transfer) parts in
        subst (λ (n : ℕ). IsRunning does world may_stop job_at first after drawn (front ++ back) ((n, closed.0) ∷ results)) (sym same) (ends_between before after drawn results front back t closed.0 run end)

    -- the last transfer was closed
    pub running_close_last : {D : Type 0} (home : List Tables) (before after : C) (shown : D → DialShown) (old new : D) (drawn : List ℕ) (results : List (ℕ × Done)) (slots left : List (Option (TransferShown W))) (closed : Done × Prepared)
        → ClosesOne does world home before after shown old new slots left closed → may_stop closed.1.want.transfer → IsRunning does world may_stop job_at first before drawn (transfers_in slots) results
        → IsRunning does world may_stop job_at first after drawn (transfers_in left) ((closed.1.want.transfer, closed.0) ∷ results)
    running_close_last home before after shown old new drawn results slots left closed closes may run =
        let t = closes.transfer in
        let its : may_stop (number_of t) = subst (λ (p : Prepared). may_stop p.want.transfer) closes.parts may in
        let there : IsRunning does world may_stop job_at first before drawn (transfers_in left ++ t ∷ []) results = subst (λ (l : List (TransferShown W)). IsRunning does world may_stop job_at first before drawn l results) closes.taken run in
        subst (λ (l : List (TransferShown W)). IsRunning does world may_stop job_at first after drawn l ((closed.1.want.transfer, closed.0) ∷ results)) (append-nil (transfers_in left))
        (closes_between before after drawn results (transfers_in left) [] t closed closes.moment closes.told closes.cancels closes.closes closes.parts its there)

    -- the transfer at a place was closed
    pub running_close : {D : Type 0} (home : List Tables) (before after : C) (shown : D → DialShown) (old new : D) (drawn : List ℕ) (results : List (ℕ × Done)) (slots left : List (Option (TransferShown W))) (place : ℕ) (closed : Done × Prepared)
        → ClosesPlace does world home before after shown old new slots left place closed → may_stop closed.1.want.transfer → IsRunning does world may_stop job_at first before drawn (transfers_in slots) results
        → IsRunning does world may_stop job_at first after drawn (transfers_in left) ((closed.1.want.transfer, closed.0) ∷ results)
    running_close home before after shown old new drawn results slots left place closed closes may run =
        let t = closes.transfer in
        let its : may_stop (number_of t) = subst (λ (p : Prepared). may_stop p.want.transfer) closes.parts may in
        let stands = stands_between slots place t closes.stood in
        let there : IsRunning does world may_stop job_at first before drawn (stands.front ++ t ∷ stands.back) results = subst (λ (l : List (TransferShown W)). IsRunning does world may_stop job_at first before drawn l results) stands.whole run in
        let whole : transfers_in left ≡ stands.front ++ stands.back = ap transfers_in closes.left_is ∙ stands.without in
        subst (λ (l : List (TransferShown W)). IsRunning does world may_stop job_at first after drawn l ((closed.1.want.transfer, closed.0) ∷ results)) (sym whole)
        (closes_between before after drawn results stands.front stands.back t closed closes.moment closes.told closes.cancels closes.closes closes.parts its there)

    -- a whole round, or one up to an end
    module _ {D : Type 0} (shown : D → DialShown) (before : C) (old : D) (drawn : List ℕ) (results : List (ℕ × Done)) (slots : List (Option (TransferShown W))) (run : IsRunning does world may_stop job_at first before drawn (transfers_in slots) results) where
      pub running_polls : (after : C) (new : D) (left : List (Option (TransferShown W))) (places : List ℕ) → PollsPlaces does world shown before after old new slots left places → IsRunning does world may_stop job_at first after drawn (transfers_in left) results
      running_polls after new left [] polls =
          subst (λ (c : C). IsRunning does world may_stop job_at first c drawn (transfers_in left) results) (sym polls.0)
          (subst (λ (l : List (Option (TransferShown W))). IsRunning does world may_stop job_at first before drawn (transfers_in l) results) (sym polls.2) run)
      running_polls after new left (place ∷ earlier) polls =
          running_poll shown polls.0 after polls.1 new drawn results polls.2 left place (running_polls polls.0 polls.1 polls.2 earlier polls.3) polls.4

      pub running_round : (after : C) (new : D) (left : List (Option (TransferShown W))) → PollsInTurn does world shown before after old new slots left None → IsRunning does world may_stop job_at first after drawn (transfers_in left) results
      running_round after new left round = running_polls after new left round.0 round.1

      pub running_round_ends : (after : C) (new : D) (left : List (Option (TransferShown W))) (ended : Ended) → PollsInTurn does world shown before after old new slots left (Some ended)
          → IsRunning does world may_stop job_at first after drawn (transfers_in left) ((ended.parts.want.transfer, ended.done) ∷ results)
      running_round_ends after new left ended round =
          running_end shown round.1 after round.2 new drawn results round.3 left round.5.0 (running_polls round.1 round.2 round.3 round.0 round.4) ended round.5.1
