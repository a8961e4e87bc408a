use Rattle.std.proofs.Common.{◌≡◌, length, codes}
use Rattle.persistence.specs.Fields.{NameAndValue}
use Rattle.persistence.proofs.FieldLemmas.{other_length, other_added}
use Rattle.persistence.proofs.head.fields.ControlFields.with.Goals as goal

pub returns : goal.returns
returns c = λ fields tells.
    let field : NameAndValue = (c.args.name.now, c.args.value.now) in
    other_added fields field c.args.self tells
    (other_length (codes "connection") field (λ (e : length c.args.name.now ≡ 10). c.if-len-eq-CONNECTION_LEN.false e))
    (other_length (codes "content-length") field (λ (e : length c.args.name.now ≡ 14). c.if-len-eq-CONTENT_LENGTH_LEN.false e))
    (other_length (codes "transfer-encoding") field (λ (e : length c.args.name.now ≡ 17). c.if-len-eq-TRANSFER_ENCODING_LEN.false e))
