use Rattle.std.proofs.Common.{◌≡◌, length, codes, sym, ◌∙◌, arith}
use Rattle.persistence.specs.Fields.{NameAndValue}
use Rattle.persistence.proofs.FieldLemmas.{other_length, other_added, content_length_added}
use Rattle.persistence.proofs.head.fields.ControlFields.with_content_length.Goals as goal

pub returns-then-not-is_name : goal.returns-then-not-is_name
returns-then-not-is_name c = λ fields tells.
    let field : NameAndValue = (c.args.name.now, c.args.value.now) in
    other_added fields field c.args.self tells
    (other_length (codes "connection") field (λ (e : length c.args.name.now ≡ 10). omega (arith, e, c.requires)))
    (sym c.is_name.ensures ∙ c.if-not-is_name.true)
    (other_length (codes "transfer-encoding") field (λ (e : length c.args.name.now ≡ 17). omega (arith, e, c.requires)))

pub returns : goal.returns
returns c = λ fields tells.
    let field : NameAndValue = (c.args.name.now, c.args.value.now) in
    content_length_added fields field c.args.self tells c.one_number_with-counted.result (sym c.is_name.ensures ∙ c.if-not-is_name.false)
    (other_length (codes "connection") field (λ (e : length c.args.name.now ≡ 10). omega (arith, e, c.requires)))
    (other_length (codes "transfer-encoding") field (λ (e : length c.args.name.now ≡ 17). omega (arith, e, c.requires)))
    c.one_number_with-counted.ensures
