-- What calls for one job add to all that was done.
use Rattle.std.proofs.Common.{◌≡◌, refl, sym, subst, ap, ◌∙◌, ℕ, ◌==◌, eq-eqb, List, [], ◌∷◌, ◌++◌}
use Rattle.std.specs.List.{filter}
use Rattle.std.proofs.lemmas.Bool.{cond-true, cond-false, ne_eqb}
use Rattle.cache_trait.specs.CacheCalls.{CacheCall, AllDone}
use Rattle.run_loop.specs.LoopCalls.{calls_of, calls_for, all_for}

module _ {W : Type 0} (number : ℕ) where
  pub calls_upon : (own : List (CacheCall W)) (all : List (ℕ × CacheCall W)) → calls_of (all_for number own ++ all) ≡ own ++ calls_of all
  calls_upon [] all = refl
  calls_upon (call ∷ own) all = ap (λ (l : List (CacheCall W)). call ∷ l) (calls_upon own all)

  -- for their own job they are in front of what was done before
  pub own_upon : (own : List (CacheCall W)) (all : List (ℕ × CacheCall W)) → calls_for number (all_for number own ++ all) ≡ own ++ calls_for number all
  own_upon [] all = refl
  own_upon (call ∷ own) all =
      let rest = filter (λ (d : ℕ × CacheCall W). number == d.0) (all_for number own ++ all) in
      ap (λ (l : List (ℕ × CacheCall W)). calls_of l) (cond-true (number == number) ((number, call) ∷ rest) rest (eq-eqb number number refl)) ∙ ap (λ (l : List (CacheCall W)). call ∷ l) (own_upon own all)

  -- for another job nothing was done by them
  pub others_upon : (other : ℕ) → (other ≡ number → ⊥) → (own : List (CacheCall W)) (all : List (ℕ × CacheCall W)) → calls_for other (all_for number own ++ all) ≡ calls_for other all
  others_upon other apart [] all = refl
  others_upon other apart (call ∷ own) all =
      let rest = filter (λ (d : ℕ × CacheCall W). other == d.0) (all_for number own ++ all) in
      ap (λ (l : List (ℕ × CacheCall W)). calls_of l) (cond-false (other == number) ((number, call) ∷ rest) rest (ne_eqb other number apart)) ∙ others_upon other apart own all

-- what was done up to some time, and from then on, was done from the beginning on
pub done_upon : {C W : Type 0} (does : C → C → CacheCall W → Type 0) (first before after : C) (own earlier : List (CacheCall W)) → AllDone does first before earlier → AllDone does before after own → AllDone does first after (own ++ earlier)
done_upon does first before after [] earlier was done = subst (λ (c : _). AllDone does first c earlier) (sym done) was
done_upon does first before after (call ∷ own) earlier was done = (done.0, done_upon does first before done.0 own earlier was done.1, done.2)
