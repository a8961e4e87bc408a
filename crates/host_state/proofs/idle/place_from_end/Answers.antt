use Rattle.std.proofs.Common.{◌≡◌, true, sym, ◌∙◌, arith}
use Rattle.host_state.proofs.Order.{all_before}
use Rattle.host_state.proofs.idle.place_from_end.Goals as goal

pub returns-else-not-goes_before : goal.returns-else-not-goes_before
returns-else-not-goes_before g c =
    let test : c.goes_before.result ≡ true = grind (arith, c.if-not-goes_before.false) in
    all_before _ _ _ _ c.requires c.loop-place.invariant.in_range c.loop-place-test.true _ c.index.ensures (sym c.goes_before.ensures ∙ test) c.loop-place.invariant.after
