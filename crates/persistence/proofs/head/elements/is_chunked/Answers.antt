use Rattle.std.proofs.Common.{rules, tests, ◌∙◌, None}
use Rattle.std.specs.List.{slice_split}
use Rattle.std.proofs.lemmas.Iterator.Consumers.{fold_from_yields_List}
use Rattle.std.proofs.lemmas.Iterator.Splits.{YieldsList-from_slice_split}
use Rattle.httparse.specs.Grammar.{trim_ows}
use Rattle.persistence.specs.Fields.{is_comma}
use Rattle.persistence.specs.ReadingHeads.{chunked_after}
use Rattle.persistence.proofs.ElementLemmas.{fold-chunked_after, option_or-None}
use Rattle.persistence.proofs.head.elements.is_chunked.Goals as goal

pub returns : goal.returns
returns c =
    fold_from_yields_List _ (λ known part. chunked_after known (trim_ows part)) _ _ c.fold.ensures.ran
    (YieldsList-from_slice_split _ is_comma c.args.value.now c.split.ensures.rest c.split.ensures.done c.split.ensures.closure (λ x b q k. search (rules, tests)))
    (λ a x b q k. search (rules, tests))
    ∙ fold-chunked_after (slice_split is_comma c.args.value.now) None ∙ option_or-None _
