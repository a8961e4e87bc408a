use Rattle.std.proofs.Common.{◌≤◌, subst, ℕ, List, ap, sym, ◌∙◌, arith}
use mathlib.Core.Option.{some-injective}
use lib.ListN.{get_elem?}
use Rattle.budget.specs.Limits.{Bounds}
use Rattle.budget.specs.Words.{SeatShown, Shared}
use Rattle.budget.proofs.Keeps.{all_held, within}
use Rattle.budget.proofs.words.budget.WordBudget.finish.Goals as goal

pub free-requires : goal.free-requires
free-requires g c k below = let none_there = c.close_with-closed.ensures.counts.1 ∙ c.self.invariant.slots in absurd (omega (arith, none_there))

pub returns-clause-total : goal.returns-clause-total
returns-clause-total g c =
    let end = c.close_with-closed.ensures.values.2 in
    let held = all_held _ end.0 end.1.0 _ _ end.1.1 (ap (λ (place : SeatShown). place.view.share) c.seat.view_is ∙ c.requires.all) in
    some-injective _ _ (sym c.word.ensures ∙ ap (λ (l : List ℕ). get_elem? l 0) (sym end.2) ∙ held.0) ∙ ap (λ (place : SeatShown). place.view.total.held) c.seat.view_is

pub returns-clause-kept : goal.returns-clause-kept
returns-clause-kept g c =
    let end = c.close_with-closed.ensures.values.2 in
    let held = all_held _ end.0 end.1.0 _ _ end.1.1 (ap (λ (place : SeatShown). place.view.share) c.seat.view_is ∙ c.requires.all) in
    some-injective _ _ (sym c.word-2.ensures ∙ ap (λ (l : List ℕ). get_elem? l 1) (sym end.2) ∙ held.1) ∙ ap (λ (place : SeatShown). place.view.kept.held) c.seat.view_is

pub returns-clause-total_within : goal.returns-clause-total_within
returns-clause-total_within g c =
    let end = c.close_with-closed.ensures.values.2 in
    let key = c.self.invariant.limits ∙ ap (λ (budget : Shared). budget.limits) c.self.view_is in
    let both = within _ end.0 end.1.0 c.word.result c.word-2.result (ap (λ (l : List ℕ). get_elem? l 0) end.2 ∙ c.word.ensures) (ap (λ (l : List ℕ). get_elem? l 1) end.2 ∙ c.word-2.ensures) in
    subst (λ (b : Bounds). c.word.result ≤ b.total) key both.0

pub returns-clause-kept_within : goal.returns-clause-kept_within
returns-clause-kept_within g c =
    let end = c.close_with-closed.ensures.values.2 in
    let key = c.self.invariant.limits ∙ ap (λ (budget : Shared). budget.limits) c.self.view_is in
    let both = within _ end.0 end.1.0 c.word.result c.word-2.result (ap (λ (l : List ℕ). get_elem? l 0) end.2 ∙ c.word.ensures) (ap (λ (l : List ℕ). get_elem? l 1) end.2 ∙ c.word-2.ensures) in
    subst (λ (b : Bounds). c.word-2.result ≤ b.connects) key both.1
