use Rattle.std.proofs.Common.{◌≡◌, true, refl, sym, ◌∙◌, arith}
use Rattle.host_state.proofs.TooOld.{none_from_place}
use Rattle.host_state.proofs.idle.is_any_too_old.Goals as goal

pub returns-then-ends_search-clause-none : goal.returns-then-ends_search-clause-none
returns-then-ends_search-clause-none g c _ =
    let test : c.ends_search.result ≡ true = grind (arith, c.if-ends_search.true) in
    none_from_place c.args.want.now c.args.moment 0 _ _ c.requires (omega (arith, c.in-Some.ensures.variant.0 refl)) c.in-Some.ensures.lookup (sym c.ends_search.ensures ∙ test) (λ k d before. absurd (omega (arith, before)))
