use Rattle.std.proofs.Common.{◌++◌}
use Rattle.std.proofs.lemmas.Result.{IfErr-weaker}
use Rattle.persistence.proofs.StageLemmas.{stage_fault}
use Rattle.persistence.proofs.reader.ResponseReader.feed.Goals as goal

pub returns-clause-told : goal.returns-clause-told
returns-clause-told c =
    let reader = c.self.inside in
    rw (c.append.ensures)
    (c.answer_at.ensures.told reader.method (reader.fed.bytes ++ c.args.piece.now) _ (c.stage_after-self-inside.ensures.reached reader.fed.bytes c.self.invariant.reached))

pub returns-clause-faultless : goal.returns-clause-faultless
returns-clause-faultless c =
    let reader = c.self.inside in
    rw (c.append.ensures)
    (c.answer_at.ensures.faultless reader.method (reader.fed.bytes ++ c.args.piece.now) _ (c.stage_after-self-inside.ensures.reached reader.fed.bytes c.self.invariant.reached))

pub returns-clause-fault : goal.returns-clause-fault
returns-clause-fault c =
    let reader = c.self.inside in
    rw (c.append.ensures)
    (IfErr-weaker c.answer_at.result _ _ (stage_fault reader.method (reader.fed.bytes ++ c.args.piece.now) _ c.stage_after-self-inside.result (c.stage_after-self-inside.ensures.reached reader.fed.bytes c.self.invariant.reached)) c.answer_at.ensures.fault)
