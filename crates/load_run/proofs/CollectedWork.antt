-- What the threads of a load leave is collected, one after another.
use Rattle.std.proofs.Common.{◌≡◌, ◌∙◌, ap, refl, subst, sym, ℕ, ◌+◌, List, [], ◌∷◌, ◌++◌, map, reverse}
use Rattle.std.proofs.lemmas.List.{append-nil, append_assoc, map-append, reverse-append}
use Rattle.bundle.specs.Passes.{Accounts}
use Rattle.driver.specs.declared.many.worker.Finished.{Finished}
use Rattle.load_figures.specs.Counts.{capped}
use Rattle.load_figures.specs.Figures.{JobFigures}
use Rattle.load_run.specs.declared.counted_results.CountedResults.{CountedResults}
use Rattle.load_run.specs.Counting.{AddsAll, AddsFigures, with_unbegun}
use Rattle.load_run.specs.ManyLoads.{pass_in, results_in}

-- of a list, the last is first in reverse
last_first : {A B : Type 0} (f : A → B) (all rest : List A) (last : A) → all ≡ rest ++ last ∷ [] → reverse (map f all) ≡ f last ∷ reverse (map f rest)
last_first f all rest last is = ap (λ l. reverse (map f l)) is ∙ ap (λ l. reverse l) (map-append f rest (last ∷ [])) ∙ reverse-append (map f rest) (f last ∷ [])

module _ {D : Type 0} (workers rest : List (Finished D CountedResults)) (last : Finished D CountedResults) (popped : workers ≡ rest ++ last ∷ []) where
  pub figures_on : (first figures new : JobFigures) (all : List CountedResults) → AddsFigures figures last.results.figures new
      → ((target : JobFigures) → AddsAll figures (reverse (map (results_in {D = D}) workers)) target → AddsAll first all target)
      → (target : JobFigures) → AddsAll new (reverse (map (results_in {D = D}) rest)) target → AddsAll first all target
  figures_on first figures new all adds so_far target more =
      so_far target (subst (λ (l : List CountedResults). AddsAll figures l target) (sym (last_first (results_in {D = D}) workers rest last popped)) (new, adds, more))

  pub unbegun_on : (count new target : ℕ) → new ≡ capped (count + last.results.unbegun) → with_unbegun count (reverse (map (results_in {D = D}) workers)) ≡ target → with_unbegun new (reverse (map (results_in {D = D}) rest)) ≡ target
  unbegun_on count new target is so_far =
      ap (λ (n : ℕ). with_unbegun n (reverse (map (results_in {D = D}) rest))) is ∙ sym (ap (with_unbegun count) (last_first (results_in {D = D}) workers rest last popped)) ∙ so_far

  pub passes_on : (passes new target : List Accounts) → new ≡ passes ++ last.pass ∷ [] → passes ++ reverse (map (pass_in {D = D}) workers) ≡ target → new ++ reverse (map (pass_in {D = D}) rest) ≡ target
  passes_on passes new target is so_far =
      ap (λ (l : List Accounts). l ++ reverse (map (pass_in {D = D}) rest)) is ∙ append_assoc passes (last.pass ∷ []) (reverse (map (pass_in {D = D}) rest))
      ∙ sym (ap (λ (l : List Accounts). passes ++ l) (last_first (pass_in {D = D}) workers rest last popped)) ∙ so_far

module _ {D : Type 0} (workers : List (Finished D CountedResults)) (none : workers ≡ []) where
  pub figures_all : (first figures : JobFigures) (all : List CountedResults) → ((target : JobFigures) → AddsAll figures (reverse (map (results_in {D = D}) workers)) target → AddsAll first all target) → AddsAll first all figures
  figures_all first figures all so_far = so_far figures (subst (λ (l : List (Finished D CountedResults)). AddsAll figures (reverse (map (results_in {D = D}) l)) figures) (sym none) refl)

  pub unbegun_all : (count target : ℕ) → with_unbegun count (reverse (map (results_in {D = D}) workers)) ≡ target → count ≡ target
  unbegun_all count target so_far = sym (ap (λ l. with_unbegun count (reverse (map (results_in {D = D}) l))) none) ∙ so_far

  pub passes_all : (passes target : List Accounts) → passes ++ reverse (map (pass_in {D = D}) workers) ≡ target → passes ≡ target
  passes_all passes target so_far = sym (append-nil passes) ∙ sym (ap (λ l. passes ++ reverse (map (pass_in {D = D}) l)) none) ∙ so_far
