use Rattle.std.proofs.Common.{subst}
use Rattle.persistence.specs.declared.reader.stage.Stage.{Stage}
use Rattle.persistence.specs.ReadingStages.{IsAtStage}
use Rattle.persistence.proofs.StageLemmas.{faulty_more}
use Rattle.persistence.proofs.reader.stage.stage_after.Goals as goal

pub returns-in-Fault-clause-reached : goal.returns-in-Fault-clause-reached
returns-in-Fault-clause-reached c = λ bytes reached.
    faulty_more c.args.method bytes c.args.piece.now c.in-Fault.fault c.in-Fault.head c.in-Fault.len
    (subst (λ (stage : Stage). IsAtStage c.args.method bytes stage c.args.buffer.now) c.in-Fault.is reached)
