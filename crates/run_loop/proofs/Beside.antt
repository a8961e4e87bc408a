-- A run beside one job of it, which was drawn and is taken out.
use Rattle.std.proofs.Common.{◌≡◌, sym, subst, ap, ◌∙◌, ℕ, ◌+◌, ◌<◌, ◌≤◌, ◌⊎◌, inl, inr, List, [], ◌∷◌, ◌++◌, arith}
use Rattle.std.specs.List.{All}
use Rattle.std.proofs.lemmas.List.{map-append}
use Rattle.std.proofs.lemmas.List.Elements.{All-nil, All-cons, All-head, All-tail, All-append}
use Rattle.std.proofs.lemmas.Bool.{cases_eq}
use Rattle.run_loop.specs.Draws.{times}
use Rattle.cache_trait.specs.CacheCalls.{CacheCall, AllDone}
use Rattle.exchange.specs.declared.job.Job.{Job}
use Rattle.exchange.specs.declared.done.Done.{Done}
use Rattle.exchange.specs.Transfers.{TransferShown}
use Rattle.exchange.specs.Worlds.{World}
use Rattle.run_loop.specs.LoopCalls.{calls_of, calls_for, all_for}
use Rattle.run_loop.specs.Endings.{EndsFor}
use Rattle.run_loop.specs.Running.{numbers_of, number_of, numbers_under_way, IsUnderWay, AreUnderWay, IsCarriedOut, AreCarriedOut, IsRunning}
use Rattle.run_loop.proofs.Numbers.{times_both, times_cons, times_itself, times_other, not_first, none_above, split_all}
use Rattle.run_loop.proofs.Labels.{calls_upon, others_upon, done_upon}

-- the job of that number was drawn; of all others the run tells what it tells of a run: they have results, or are under
-- way in front of the job's place or behind it
pub record IsBeside {C W : Type 0} (did : C → C → CacheCall W → Type 0) (world : World W) (may_stop : ℕ → Type 0) (job_at : ℕ → Job) (first cache : C) (drawn : List ℕ) (number : ℕ) (front back : List (TransferShown W)) (results : List (ℕ × Done)) (all : List (ℕ × CacheCall W)) : Type 0 where
  pub done : AllDone did first cache (calls_of all)
  pub before_it : AreUnderWay world job_at all front
  pub behind_it : AreUnderWay world job_at all back
  pub carried : AreCarriedOut world may_stop job_at all results
  pub counted : (other : ℕ) → times other drawn ≡ times other (numbers_of results) + times other (numbers_under_way front) + times other (numbers_under_way back) + times other (number ∷ [])
  pub once : (other : ℕ) → times other drawn ≤ 1
  pub none_else : (other : ℕ) → times other drawn ≡ 0 → calls_for other all ≡ []

-- the numbers of those in front and behind
under_way_both : {W : Type 0} (k : ℕ) (front back : List (TransferShown W)) → times k (numbers_under_way (front ++ back)) ≡ times k (numbers_under_way front) + times k (numbers_under_way back)
under_way_both {W} k front back = ap (times k) (map-append (number_of {W = W}) front back) ∙ times_both k (numbers_under_way front) (numbers_under_way back)

under_way_with : {W : Type 0} (k : ℕ) (front back : List (TransferShown W)) (t : TransferShown W) → times k (numbers_under_way (front ++ t ∷ back)) ≡ times k (numbers_under_way front) + times k (numbers_under_way back) + times k (number_of t ∷ [])
under_way_with k front back t =
    let both = under_way_both k front (t ∷ back) in
    let cons = times_cons k (number_of t) (numbers_under_way back) in
    omega (arith, both, cons)

-- what was done for one job leaves the others as they are
module _ {W : Type 0} (world : World W) (job_at : ℕ → Job) (number : ℕ) (own : List (CacheCall W)) (all : List (ℕ × CacheCall W)) where
  pub still_under_way : (transfers : List (TransferShown W)) → times number (numbers_under_way transfers) ≡ 0 → AreUnderWay world job_at all transfers → AreUnderWay world job_at (all_for number own ++ all) transfers
  still_under_way [] none each = All-nil (λ (t : TransferShown W). IsUnderWay world (job_at (number_of t)) (number_of t) (all_for number own ++ all) t)
  still_under_way (t ∷ rest) none each =
      let Was : TransferShown W → Type 0 = λ t. IsUnderWay world (job_at (number_of t)) (number_of t) all t in
      let Is : TransferShown W → Type 0 = λ t. IsUnderWay world (job_at (number_of t)) (number_of t) (all_for number own ++ all) t in
      let cons = times_cons number (number_of t) (numbers_under_way rest) in
      let first : times number (number_of t ∷ []) ≡ 0 = omega (arith, cons, none) in
      let others : times number (numbers_under_way rest) ≡ 0 = omega (arith, cons, none) in
      let same = others_upon number (number_of t) (not_first number (number_of t) first) own all in
      let was : Was t = All-head Was t rest each in
      let is : Is t = record { its = was.its; stands = rw same was.stands } in
      All-cons Is t rest is (still_under_way rest others (All-tail Was t rest each))

  pub still_carried_out : (may_stop : ℕ → Type 0) (results : List (ℕ × Done)) → times number (numbers_of results) ≡ 0 → AreCarriedOut world may_stop job_at all results → AreCarriedOut world may_stop job_at (all_for number own ++ all) results
  still_carried_out may_stop [] none each = All-nil (λ (r : ℕ × Done). IsCarriedOut world may_stop job_at (all_for number own ++ all) r.0 r.1)
  still_carried_out may_stop (r ∷ rest) none each =
      let Was : ℕ × Done → Type 0 = λ r. IsCarriedOut world may_stop job_at all r.0 r.1 in
      let Is : ℕ × Done → Type 0 = λ r. IsCarriedOut world may_stop job_at (all_for number own ++ all) r.0 r.1 in
      let cons = times_cons number r.0 (numbers_of rest) in
      let first : times number (r.0 ∷ []) ≡ 0 = omega (arith, cons, none) in
      let others : times number (numbers_of rest) ≡ 0 = omega (arith, cons, none) in
      let same = others_upon number r.0 (not_first number r.0 first) own all in
      let was : Was r = All-head Was r rest each in
      let is : Is r = subst (λ (calls : List (CacheCall W)). EndsFor world (may_stop r.0) (job_at r.0) r.1 calls) (sym same) was in
      All-cons Is r rest is (still_carried_out may_stop rest others (All-tail Was r rest each))

module _ {C W : Type 0} (does : C → C → CacheCall W → Type 0) (world : World W) (may_stop : ℕ → Type 0) (job_at : ℕ → Job) (first : C) where
  -- a transfer is taken out of a run
  pub taken_out : (cache : C) (drawn : List ℕ) (front back : List (TransferShown W)) (t : TransferShown W) (results : List (ℕ × Done)) → (run : IsRunning does world may_stop job_at first cache drawn (front ++ t ∷ back) results)
      → IsUnderWay world (job_at (number_of t)) (number_of t) run.all t × IsBeside does world may_stop job_at first cache drawn (number_of t) front back results run.all
  taken_out cache drawn front back t results run =
      let Each : TransferShown W → Type 0 = λ t. IsUnderWay world (job_at (number_of t)) (number_of t) run.all t in
      let parts = split_all Each front (t ∷ back) run.under_way in (
        All-head Each t back parts.1,
        record {
          done = run.done;
          before_it = parts.0;
          behind_it = All-tail Each t back parts.1;
          carried = run.carried;
          counted = λ other. (let counted = run.counted other in let with = under_way_with other front back t in omega (arith, counted, with));
          once = run.once;
          none_else = run.none_else;
        },
      )

  module _ (drawn : List ℕ) (number : ℕ) (front back : List (TransferShown W)) (results : List (ℕ × Done)) where
    -- something was done for it
    pub goes_on_beside : (before after : C) (own : List (CacheCall W)) (all : List (ℕ × CacheCall W)) → IsBeside does world may_stop job_at first before drawn number front back results all → AllDone does before after own
        → IsBeside does world may_stop job_at first after drawn number front back results (all_for number own ++ all)
    goes_on_beside before after own all run did =
        let one = run.once number in
        let counts = run.counted number in
        let itself = times_itself number in
        let no_results : times number (numbers_of results) ≡ 0 = omega (arith, one, counts, itself) in
        let none_before : times number (numbers_under_way front) ≡ 0 = omega (arith, one, counts, itself) in
        let none_behind : times number (numbers_under_way back) ≡ 0 = omega (arith, one, counts, itself) in
        let was_drawn : times number drawn ≡ 1 = omega (arith, one, counts, itself) in
        record {
          done = subst (λ (calls : List (CacheCall W)). AllDone does first after calls) (sym (calls_upon number own all)) (done_upon does first before after own (calls_of all) run.done did);
          before_it = still_under_way world job_at number own all front none_before run.before_it;
          behind_it = still_under_way world job_at number own all back none_behind run.behind_it;
          carried = still_carried_out world job_at number own all may_stop results no_results run.carried;
          counted = run.counted;
          once = run.once;
          none_else = λ other none. others_upon number other (λ same. (let here : times other drawn ≡ 1 = ap (λ k. times k drawn) same ∙ was_drawn in absurd (omega (arith, here, none)))) own all ∙ run.none_else other none;
        }

    module _ (cache : C) (all : List (ℕ × CacheCall W)) (run : IsBeside does world may_stop job_at first cache drawn number front back results all) where
      -- it stands at its place again
      pub put_back : (t : TransferShown W) → number_of t ≡ number → IsUnderWay world (job_at number) number all t → IsRunning does world may_stop job_at first cache drawn (front ++ t ∷ back) results
      put_back t same is =
          let Each : TransferShown W → Type 0 = λ t. IsUnderWay world (job_at (number_of t)) (number_of t) all t in
          let it : Each t = subst (λ (n : ℕ). IsUnderWay world (job_at n) n all t) (sym same) is in
          record {
            all = all;
            done = run.done;
            under_way = All-append Each front (t ∷ back) run.before_it (All-cons Each t back it run.behind_it);
            carried = run.carried;
            counted = λ other. (let counted = run.counted other in let with = under_way_with other front back t in let its = ap (λ n. times other (n ∷ [])) same in omega (arith, counted, with, its));
            once = run.once;
            none_else = run.none_else;
          }

      -- it has a result
      pub has_ended : (done : Done) → IsCarriedOut world may_stop job_at all number done → IsRunning does world may_stop job_at first cache drawn (front ++ back) ((number, done) ∷ results)
      has_ended done is =
          let Each : TransferShown W → Type 0 = λ t. IsUnderWay world (job_at (number_of t)) (number_of t) all t in
          let Ended : ℕ × Done → Type 0 = λ r. IsCarriedOut world may_stop job_at all r.0 r.1 in
          record {
            all = all;
            done = run.done;
            under_way = All-append Each front back run.before_it run.behind_it;
            carried = All-cons Ended (number, done) results is run.carried;
            counted = λ other. (let counted = run.counted other in let both = under_way_both other front back in let cons = times_cons other number (numbers_of results) in omega (arith, counted, both, cons));
            once = run.once;
            none_else = run.none_else;
          }

  -- the job of a number above all others is drawn, and nothing was done for it
  pub is_drawn : (cache : C) (drawn : List ℕ) (number : ℕ) (front back : List (TransferShown W)) (results : List (ℕ × Done)) → All (λ k. k < number) drawn → (run : IsRunning does world may_stop job_at first cache drawn (front ++ back) results)
      → (calls_for number run.all ≡ []) × IsBeside does world may_stop job_at first cache (drawn ++ number ∷ []) number front back results run.all
  is_drawn cache drawn number front back results above run =
      let Each : TransferShown W → Type 0 = λ t. IsUnderWay world (job_at (number_of t)) (number_of t) run.all t in
      let parts = split_all Each front back run.under_way in
      let new = none_above number drawn above in (
        run.none_else number new,
        record {
          done = run.done;
          before_it = parts.0;
          behind_it = parts.1;
          carried = run.carried;
          counted = λ other. (let counted = run.counted other in let both = under_way_both other front back in let more = times_both other drawn (number ∷ []) in omega (arith, counted, both, more));
          once = λ other. drawn_once drawn number new run.once other (cases_eq other number);
          none_else = λ other none. (let more = times_both other drawn (number ∷ []) in run.none_else other (omega (arith, more, none)));
        },
      )
    where
      drawn_once : (drawn : List ℕ) (number : ℕ) → times number drawn ≡ 0 → ((k : ℕ) → times k drawn ≤ 1) → (other : ℕ) → (other ≡ number) ⊎ (other ≡ number → ⊥) → times other (drawn ++ number ∷ []) ≤ 1
      drawn_once drawn number new once other (inl same) =
          let more = times_both number drawn (number ∷ []) in
          let itself = times_itself number in
          let here : times number (drawn ++ number ∷ []) ≤ 1 = omega (arith, more, itself, new) in
          subst (λ (k : ℕ). times k (drawn ++ number ∷ []) ≤ 1) (sym same) here
      drawn_once drawn number new once other (inr apart) =
          let more = times_both other drawn (number ∷ []) in
          let none = times_other other number apart in
          let one = once other in
          omega (arith, more, none, one)
