use Rattle.persistence.proofs.StageLemmas.{stage_shown}
use Rattle.persistence.proofs.reader.ResponseReader.facts.Goals as goal

pub returns-clause-shown : goal.returns-clause-shown
returns-clause-shown c =
    let reader = c.self.inside in
    rw (← c.self.view_is) (stage_shown reader.method reader.fed.bytes reader.buffer reader.stage c.self.invariant.reached)

pub returns-clause-told : goal.returns-clause-told
returns-clause-told c =
    let reader = c.self.inside in
    rw (← c.self.view_is) (c.facts_at.ensures.told reader.fed.bytes reader.buffer c.self.invariant.reached)

pub returns-clause-after_fault : goal.returns-clause-after_fault
returns-clause-after_fault c =
    let reader = c.self.inside in
    rw (← c.self.view_is) (c.facts_at.ensures.after_fault reader.fed.bytes reader.buffer c.self.invariant.reached)

pub returns-clause-whole : goal.returns-clause-whole
returns-clause-whole c =
    let reader = c.self.inside in
    rw (← c.self.view_is) (c.facts_at.ensures.whole reader.fed.bytes reader.buffer c.self.invariant.reached)
