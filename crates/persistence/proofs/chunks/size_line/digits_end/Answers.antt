use Rattle.std.proofs.Common.{arith, rules, tests, ◌∙◌, not}
use Rattle.std.proofs.lemmas.List.Sums.{prefix_len-le-length}
use Rattle.std.specs.Char.{is_ascii_hexdigit}
use Rattle.std.proofs.lemmas.Iterator.{YieldsList-from_slice}
use Rattle.std.proofs.lemmas.Iterator.Search.{position_from_yields_List}
use Rattle.persistence.proofs.ElementLemmas.{unwrap_or-position}
use Rattle.persistence.proofs.chunks.size_line.digits_end.Goals as goal

pub returns-clause-place : goal.returns-clause-place
returns-clause-place c =
    let place = position_from_yields_List (λ b. not (is_ascii_hexdigit b)) _ _ c.position.result c.position.ensures.ran (YieldsList-from_slice c.args.text.now (cc)) (λ x b q k. search (rules, tests)) in
    c.unwrap_or.ensures ∙ unwrap_or-position (λ b. not (is_ascii_hexdigit b)) c.args.text.now c.position.result place

pub returns-clause-bound : goal.returns-clause-bound
returns-clause-bound c = omega (arith, returns-clause-place c, prefix_len-le-length (λ b. not (not (is_ascii_hexdigit b))) c.args.text.now)
