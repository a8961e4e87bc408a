use Rattle.std.proofs.Common.{◌≡◌, true, false, sym, ◌∙◌, arith}
use Rattle.std.specs.Prelude.{◌==◌}
use Rattle.std.proofs.lemmas.Bool.Decides.{nat_tests}
use Rattle.host_state.proofs.TooOld.{none_older_from_place}
use Rattle.host_state.proofs.closing.first_older.Goals as goal

pub returns-then-max_life-eq0-clause-none : goal.returns-then-max_life-eq0-clause-none
returns-then-max_life-eq0-clause-none g c =
    let young : c.is_older.result ≡ false = grind (arith, c.if-is_older.false) in
    let no_life : (c.args.max_life == 0) ≡ true = grind (arith, nat_tests, c.if-max_life-eq0.true) in
    none_older_from_place c.args.max_age c.args.max_life c.args.moment _ _ _ c.requires (omega (arith, c.loop-place-test.true, c.len.ensures)) c.index.ensures no_life (sym c.is_older.ensures ∙ young) c.loop-place.invariant.none_before
