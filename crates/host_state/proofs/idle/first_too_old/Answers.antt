use Rattle.std.proofs.Common.{◌≡◌, true, sym, ◌∙◌, arith}
use Rattle.host_state.proofs.TooOld.{none_from_place}
use Rattle.host_state.proofs.idle.first_too_old.Goals as goal

pub returns-else-not-ends_search-clause-none : goal.returns-else-not-ends_search-clause-none
returns-else-not-ends_search-clause-none g c =
    let test : c.ends_search.result ≡ true = grind (arith, c.if-not-ends_search.false) in
    none_from_place c.args.want.now c.args.moment _ _ _ c.requires (omega (arith, c.loop-place-test.true, c.len.ensures)) c.index.ensures (sym c.ends_search.ensures ∙ test) c.loop-place.invariant.none_before
