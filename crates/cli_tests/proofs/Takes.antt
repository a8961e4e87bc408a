-- What was taken in turn was taken.
use Rattle.std.proofs.Common.{◌≡◌, ℕ, List, [], ◌∷◌, ◌++◌, refl, sym, subst}
use Rattle.exchange.specs.declared.done.Done.{Done}
use Rattle.run_loop.specs.Taking.{AllTaken, JobResult, job_result}
use Rattle.run_loop.specs.declared.results.Span.{Span}
use Rattle.crawl.specs.Results.{TakesAll}

module _ {R : Type 0} (took : R → R → ℕ → Done → Span → Type 0) where
  pub takes_none : (now : R) → TakesAll (λ told. Unit {0}) took now now
  takes_none now = ([], tt, refl)

  pub takes_one : (old new : R) (number : ℕ) (done : Done) (span : Span) → took old new number done span → TakesAll (λ told. Unit {0}) took old new
  takes_one old new number done span one = (job_result number done span ∷ [], tt, (old, refl, one))

  all_more : (first mid last : R) (told more : List JobResult) → AllTaken took first mid told → AllTaken took mid last more → AllTaken took first last (more ++ told)
  all_more first mid last told [] before after = subst (λ (r : R). AllTaken took first r told) (sym after) before
  all_more first mid last told (r ∷ more) before after = (after.0, all_more first mid after.0 told more before after.1, after.2)

  pub takes_more : (first mid last : R) → TakesAll (λ told. Unit {0}) took first mid → TakesAll (λ told. Unit {0}) took mid last → TakesAll (λ told. Unit {0}) took first last
  takes_more first mid last before after = (after.0 ++ before.0, tt, all_more first mid last before.0 after.0 before.2 after.2)
