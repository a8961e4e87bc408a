use Rattle.std.proofs.Common.{◌≡◌, length, codes, ap, sym, ◌∙◌, arith, unwrap_or}
use Rattle.persistence.specs.Fields.{NameAndValue}
use Rattle.persistence.proofs.FieldLemmas.{other_length, other_added, transfer_encoding_added}
use Rattle.persistence.proofs.head.fields.ControlFields.with_transfer_encoding.Goals as goal

pub returns-then-not-is_name : goal.returns-then-not-is_name
returns-then-not-is_name c = λ fields tells.
    let field : NameAndValue = (c.args.name.now, c.args.value.now) in
    other_added fields field c.args.self tells
    (other_length (codes "connection") field (λ (e : length c.args.name.now ≡ 10). omega (arith, e, c.requires)))
    (other_length (codes "content-length") field (λ (e : length c.args.name.now ≡ 14). omega (arith, e, c.requires)))
    (sym c.is_name.ensures ∙ c.if-not-is_name.true)

pub returns : goal.returns
returns c = λ fields tells.
    let field : NameAndValue = (c.args.name.now, c.args.value.now) in
    transfer_encoding_added fields field c.args.self tells c.unwrap_or-chunked.result (sym c.is_name.ensures ∙ c.if-not-is_name.false)
    (other_length (codes "connection") field (λ (e : length c.args.name.now ≡ 10). omega (arith, e, c.requires)))
    (other_length (codes "content-length") field (λ (e : length c.args.name.now ≡ 14). omega (arith, e, c.requires)))
    (c.unwrap_or-chunked.ensures ∙ ap (λ o. unwrap_or o c.args.self.chunked) c.is_chunked.ensures)
