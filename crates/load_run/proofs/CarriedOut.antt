-- What a run of a load has carried out.
use Rattle.std.proofs.Common.{◌≡◌, ◌∙◌, ap, ap₂, refl, sym, subst, ℕ, get_or, List, [], ◌∷◌, length, map, reverse, false}
use Rattle.std.specs.List.{All}
use Rattle.std.proofs.lemmas.List.{length-map}
use Rattle.std.proofs.lemmas.List.Elements.{All-map}
use Rattle.bundle.specs.Passes.{Accounts}
use Rattle.exchange.specs.declared.job.Job.{Job}
use Rattle.exchange.specs.Worlds.{World}
use Rattle.shared_cache.specs.Names.{CacheNames}
use Rattle.run_loop.specs.declared.run_end.RunEnd.{RunEnd}
use Rattle.run_loop.specs.Going.{is_fault}
use Rattle.run_loop.specs.Moments.{TakesTimed}
use Rattle.driver.specs.declared.many.worker.Tools.{Tools}
use Rattle.driver.specs.declared.many.worker.Finished.{Finished}
use Rattle.driver.specs.ManyWork.{IsManyRun, back_of, begun_of}
use Rattle.load_figures.specs.Figures.{JobFigures, no_figures}
use Rattle.load_run.specs.declared.account.Collected.{Collected}
use Rattle.load_run.specs.declared.counted_results.CountedResults.{CountedResults}
use Rattle.load_run.specs.declared.counted_results.Counting.{Counting}
use Rattle.load_run.specs.Counting.{AddsAll, IsUncounted, Takes, with_unbegun}
use Rattle.load_run.specs.ManyLoads.{Collects, HasCarriedOut, IsNone, pass_in, pass_of, results_in, results_of}

module _ {D : Type 0} (back : Finished D CountedResults → CountedResults × ℕ × Accounts) (back_is : (own : Finished D CountedResults) → ((back own).0 ≡ own.results) × ((back own).2 ≡ own.pass)) where
  results_back : (workers : List (Finished D CountedResults)) → map results_of (map back workers) ≡ map (results_in {D = D}) workers
  results_back [] = refl
  results_back (own ∷ others) = ap₂ (λ (x : CountedResults) (l : List CountedResults). x ∷ l) (back_is own).0 (results_back others)

  passes_back : (workers : List (Finished D CountedResults)) → map pass_of (map back workers) ≡ map (pass_in {D = D}) workers
  passes_back [] = refl
  passes_back (own ∷ others) = ap₂ (λ (x : Accounts) (l : List Accounts). x ∷ l) (back_is own).1 (passes_back others)

module _ {W D : Type 0} (world : World W) (may_stop is_reading : ℕ → Type 0) (names : CacheNames) (job_at : ℕ → ℕ → Job) (jobs : ℕ) (begin : Tools D CountedResults → CountedResults × ℕ) (back : Finished D CountedResults → CountedResults × ℕ × Accounts)
    (tools : List (Tools D CountedResults)) (workers : List (Finished D CountedResults)) (end : RunEnd) (drawn : ℕ) (ran : IsManyRun world may_stop names job_at (TakesTimed is_reading Takes) jobs (map begin tools) (map back workers) end drawn) where
  -- each of the tools comes back
  pub as_many : length workers ≡ length tools
  as_many =
      let backs : length ran.all_work ≡ length workers = sym (length-map ran.all_work back_of) ∙ ap (λ (l : List (CountedResults × ℕ × Accounts)). length l) ran.back_is ∙ length-map workers back in
      let begins : length ran.all_work ≡ length tools = sym (length-map ran.all_work begun_of) ∙ ap (λ (l : List (CountedResults × ℕ)). length l) ran.begun_is ∙ length-map tools begin in
      sym backs ∙ begins

  module _ (begin_is : (own : Tools D CountedResults) → (begin own).0 ≡ own.results) (back_is : (own : Finished D CountedResults) → ((back own).0 ≡ own.results) × ((back own).2 ≡ own.pass)) where
    pub has_carried_out : (old new : Collected) (told hosts : ℕ) (counting : Counting) → Collects old new workers → told ≡ drawn → is_fault end ≡ false → IsNone hosts old → All (λ (own : Tools D CountedResults). IsUncounted hosts counting own.results) tools
        → HasCarriedOut world may_stop is_reading names job_at jobs (length tools) hosts counting new told
    has_carried_out old new told hosts counting collects same sound none uncounted =
        let each : All (λ (own : Tools D CountedResults). IsUncounted hosts counting (begin own).0) tools = λ k d within. subst (IsUncounted hosts counting) (sym (begin_is (get_or tools k d))) (uncounted k d within) in
        record {
          begun = map begin tools;
          back = map back workers;
          end = end;
          ran = subst (λ (n : ℕ). IsManyRun world may_stop names job_at (TakesTimed is_reading Takes) jobs (map begin tools) (map back workers) end n) (sym same) ran;
          sound = sound;
          threads = length-map tools begin;
          uncounted = All-map (λ (own : CountedResults × ℕ). IsUncounted hosts counting own.0) begin tools each;
          figures_are = subst (λ (l : List CountedResults). AddsAll (no_figures hosts) (reverse l) new.figures) (sym (results_back back back_is workers))
              (subst (λ (f : JobFigures). AddsAll f (reverse (map (results_in {D = D}) workers)) new.figures) none.figures collects.figures);
          unbegun_is = collects.unbegun ∙ ap (λ (n : ℕ). with_unbegun n (reverse (map (results_in {D = D}) workers))) none.unbegun ∙ sym (ap (λ (l : List CountedResults). with_unbegun 0 (reverse l)) (results_back back back_is workers));
          passes_are = collects.passes ∙ sym (ap (λ (l : List Accounts). reverse l) (passes_back back back_is workers));
        }
