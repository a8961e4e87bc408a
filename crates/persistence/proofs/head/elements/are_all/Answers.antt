use Rattle.std.proofs.Common.{rules, tests, sym, ◌∙◌}
use Rattle.std.specs.List.{slice_split}
use Rattle.std.proofs.lemmas.List.Folds.{list_all-map}
use Rattle.std.proofs.lemmas.Iterator.Search.{all_from_yields_List}
use Rattle.std.proofs.lemmas.Iterator.Splits.{YieldsList-from_slice_split}
use Rattle.httparse.specs.Grammar.{trim_ows}
use Rattle.persistence.specs.Fields.{is_comma, is_number}
use Rattle.persistence.proofs.head.elements.are_all.Goals as goal

pub returns : goal.returns
returns c =
    all_from_yields_List (λ x. is_number c.args.number (trim_ows x)) _ _ _ c.all.ensures.ran
    (YieldsList-from_slice_split _ is_comma c.args.value.now c.split.ensures.rest c.split.ensures.done c.split.ensures.closure (λ x b q k. search (rules, tests)))
    (λ x b q k. search (rules, tests))
    ∙ sym (list_all-map (is_number c.args.number) trim_ows (slice_split is_comma c.args.value.now))
