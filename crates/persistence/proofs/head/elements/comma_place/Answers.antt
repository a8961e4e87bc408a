use Rattle.std.proofs.Common.{rules, tests, ◌∙◌}
use Rattle.std.proofs.lemmas.Iterator.{YieldsList-from_slice}
use Rattle.std.proofs.lemmas.Iterator.Search.{position_from_yields_List}
use Rattle.persistence.specs.Fields.{is_comma}
use Rattle.persistence.proofs.ElementLemmas.{unwrap_or-position}
use Rattle.persistence.proofs.head.elements.comma_place.Goals as goal

pub returns : goal.returns
returns c =
    let place = position_from_yields_List is_comma _ _ c.position.result c.position.ensures.ran (YieldsList-from_slice c.args.value.now (cc)) (λ x b q k. search (rules, tests)) in
    c.unwrap_or.ensures ∙ unwrap_or-position is_comma c.args.value.now c.position.result place
