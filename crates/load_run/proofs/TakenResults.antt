-- How the result of a job is counted, in each case.
use Rattle.std.proofs.Common.{◌≡◌, ◌∙◌, ℕ, ◌+◌, ◌<◌, ◌≤◌, true, false, sym, arith}
use mathlib.Core.Bool.{false≢true}
use Rattle.exchange.specs.declared.done.Done.{Done}
use Rattle.run_loop.specs.declared.results.Span.{Span}
use Rattle.load_figures.specs.Counts.{capped}
use Rattle.load_run.specs.declared.counted_results.CountedResults.{CountedResults}
use Rattle.load_run.specs.Counting.{Counts, Takes, has_not_begun, warm_of}

pub takes_unbegun : (number : ℕ) (done : Done) (span : Span) (own new : CountedResults) → has_not_begun done span ≡ true → new ≡ record own { unbegun = capped (own.unbegun + 1) } → Takes own new number done span
takes_unbegun number done span own new unbegun is = record {
  not_begun = λ _. is;
  warming = λ begun _. absurd (false≢true (sym begun ∙ unbegun));
  counts = λ begun _. absurd (false≢true (sym begun ∙ unbegun));
}

pub takes_warm : (number : ℕ) (done : Done) (span : Span) (own new : CountedResults) → has_not_begun done span ≡ false → span.ended < warm_of own.counting.times → new ≡ own → Takes own new number done span
takes_warm number done span own new begun warm is = record {
  not_begun = λ unbegun. absurd (false≢true (sym begun ∙ unbegun));
  warming = λ _ _. is;
  counts = λ _ late. absurd (omega (arith, warm, late));
}

pub takes_counted : (number : ℕ) (done : Done) (span : Span) (own new : CountedResults) → has_not_begun done span ≡ false → warm_of own.counting.times ≤ span.ended → Counts number done span own new → Takes own new number done span
takes_counted number done span own new begun late counts = record {
  not_begun = λ unbegun. absurd (false≢true (sym begun ∙ unbegun));
  warming = λ _ warm. absurd (omega (arith, warm, late));
  counts = λ _ _. counts;
}
