use Rattle.std.proofs.Common.{◌++◌, sym, subst}
use Rattle.std.specs.Result.{IfErr}
use Rattle.persistence.specs.declared.body.kind.BodyKind.{BodyKind}
use Rattle.persistence.specs.declared.body.state.BodyState.{BodyState}
use Rattle.persistence.specs.ReadingBody.{BodyAt, FixesBody, IsFirstInBody}
use Rattle.persistence.proofs.BodyLemmas.{too_many_bytes}
use Rattle.persistence.proofs.body.feed_body.Goals as goal

pub returns-in_default-clause-fault : goal.returns-in_default-clause-fault
returns-in_default-clause-fault c = λ kind counted text at.
    let there = subst (λ (s : BodyState). BodyAt kind counted text s c.args.buffer.now) c.in-UntilClose.is at in
    too_many_bytes kind counted (text ++ c.args.piece.now) there.0 (c.in_default.ensures text there.1)

pub returns-in-Chunked-clause-fault : goal.returns-in-Chunked-clause-fault
returns-in-Chunked-clause-fault c = λ kind counted text at.
    let there = subst (λ (s : BodyState). BodyAt kind counted text s c.args.buffer.now) c.in-Chunked.is at in
    subst (λ (k : BodyKind). IfErr c.feed_chunks-fed.result (IsFirstInBody k counted (text ++ c.args.piece.now))) (sym there.0) (c.feed_chunks-fed.ensures.fault text there.1)

pub returns-in-Chunked-clause-fixes : goal.returns-in-Chunked-clause-fixes
returns-in-Chunked-clause-fixes c = λ kind counted text at.
    let there = subst (λ (s : BodyState). BodyAt kind counted text s c.args.buffer.now) c.in-Chunked.is at in
    subst (λ (k : BodyKind). IfErr c.feed_chunks-fed.result (λ _. FixesBody k counted (text ++ c.args.piece.now) c.feed_chunks-fed.new.chunks.len)) (sym there.0) (c.feed_chunks-fed.ensures.fixes text there.1)
