use Rattle.std.proofs.Common.{◌≡◌, [], ◌∷◌, ◌++◌, length, codes, refl, sym, subst, ◌∙◌, arith, rules, tests}
use Rattle.std.specs.List.{slice_split}
use Rattle.std.proofs.lemmas.Iterator.Consumers.{fold_from_yields_List}
use Rattle.std.proofs.lemmas.Iterator.Splits.{YieldsList-from_slice_split}
use Rattle.httparse.specs.Grammar.{trim_ows}
use Rattle.persistence.specs.Fields.{NameAndValue, is_comma}
use Rattle.persistence.specs.ReadingFields.{TellsFields, adds_option}
use Rattle.persistence.proofs.FieldLemmas.{other_length, fold-adds_option, other_added, connection_added}
use Rattle.persistence.proofs.head.fields.ControlFields.with_connection.Goals as goal

pub returns-then-not-is_name : goal.returns-then-not-is_name
returns-then-not-is_name c = λ fields tells.
    let field : NameAndValue = (c.args.name.now, c.args.value.now) in
    other_added fields field c.args.self tells (sym c.is_name.ensures ∙ c.if-not-is_name.true)
    (other_length (codes "content-length") field (λ (e : length c.args.name.now ≡ 14). omega (arith, e, c.requires)))
    (other_length (codes "transfer-encoding") field (λ (e : length c.args.name.now ≡ 17). omega (arith, e, c.requires)))

pub returns : goal.returns
returns c = λ fields tells.
    let field : NameAndValue = (c.args.name.now, c.args.value.now) in
    let parts = slice_split is_comma c.args.value.now in
    let is = fold_from_yields_List _ (λ told part. adds_option told (trim_ows part)) _ _ c.fold.ensures.ran
    (YieldsList-from_slice_split _ is_comma c.args.value.now c.split.ensures.rest c.split.ensures.done c.split.ensures.closure (λ x b q k. search (rules, tests)))
    (λ a x b q k. search (rules, tests))
    ∙ fold-adds_option parts c.args.self in
    subst (TellsFields (fields ++ field ∷ [])) (sym is)
    (connection_added fields field c.args.self tells _ _ (sym c.is_name.ensures ∙ c.if-not-is_name.false)
    (other_length (codes "content-length") field (λ (e : length c.args.name.now ≡ 14). omega (arith, e, c.requires)))
    (other_length (codes "transfer-encoding") field (λ (e : length c.args.name.now ≡ 17). omega (arith, e, c.requires)))
    refl refl)
