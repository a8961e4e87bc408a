use Rattle.std.proofs.Common.{◌≡◌, IsSome, IfSome, sym, subst, arith}
use Rattle.budget.specs.Pairs.{HeldPairs, pair_count}
use Rattle.budget.proofs.HoldersSteps.{clears_back}
use Rattle.budget.proofs.holders.Holders.clear.Goals as goal

pub fetch_sub-requires : goal.fetch_sub-requires
fetch_sub-requires c =
    let i = c.self.invariant in (
      i.seated,
      omega arith,
      clears_back _ _ _ _ _ _ i.host (subst (λ (v : HeldPairs). IsSome v.back) (sym c.self.view_is) c.requires.back)
          (subst (λ (v : HeldPairs). IfSome v.back (λ p. pair_count p v.leased ≡ 1)) (sym c.self.view_is) c.requires.flagged),
    )
