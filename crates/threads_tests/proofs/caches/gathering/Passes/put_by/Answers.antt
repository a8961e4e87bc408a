use Rattle.std.proofs.Common.{◌≡◌, List, [], ◌∷◌, ◌++◌, All, sym, subst}
use Rattle.std.proofs.lemmas.List.Elements.{All-append, All-cons, All-nil}
use Rattle.bundle.specs.Passes.{Accounts}
use Rattle.shared_cache.specs.Names.{CacheNames}
use Rattle.shared_cache.specs.Passes.{IsPassOf}
use Rattle.threads_tests.proofs.caches.gathering.Passes.put_by.Goals as goal

-- with one more they are all of that cache
with_one_more : (names : CacheNames) (before after : List Accounts) (pass : Accounts) → All (IsPassOf names) before → IsPassOf names pass → after ≡ before ++ pass ∷ [] → All (IsPassOf names) after
with_one_more names before after pass all one added =
    subst (λ (passes : List Accounts). All (IsPassOf names) passes) (sym added)
    (All-append (IsPassOf names) before (pass ∷ []) all
    (All-cons (IsPassOf names) pass [] one (All-nil (IsPassOf names))))

pub invariant_of-self : goal.invariant_of-self
invariant_of-self g c = with_one_more g.N.Names.names _ _ _ c.self.invariant c.requires c.push.ensures
