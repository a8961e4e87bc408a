use Rattle.std.proofs.Common.{false, subst, Option}
use Rattle.persistence.specs.declared.head.Head.{Head}
use Rattle.persistence.specs.ReadingStages.{TellsFinalHead}
use Rattle.persistence.proofs.StageLemmas.{heads_tell, at_stage, body_status, never_status, faulty_status}
use Rattle.persistence.proofs.reader.ResponseReader.status.Goals as goal

pub returns-in-Heads : goal.returns-in-Heads
returns-in-Heads c =
    let reader = c.self.inside in
    rw (← c.self.view_is) (heads_tell reader.method false reader.fed.bytes false c.in-Heads.skipped reader.buffer
    (at_stage reader.method reader.fed.bytes reader.buffer reader.stage _ c.in-Heads.is c.self.invariant.reached)).status

pub returns-in-Body : goal.returns-in-Body
returns-in-Body c =
    let reader = c.self.inside in
    rw (← c.self.view_is) (body_status reader.method reader.fed.bytes reader.buffer c.in-Body.head c.in-Body.body
    (at_stage reader.method reader.fed.bytes reader.buffer reader.stage _ c.in-Body.is c.self.invariant.reached))

pub returns-in-None : goal.returns-in-None
returns-in-None c =
    let reader = c.self.inside in
    rw (← c.self.view_is) (never_status reader.fed.bytes
    (subst (λ (head : Option Head). TellsFinalHead reader.fed.bytes head) c.in-None.is
    (at_stage reader.method reader.fed.bytes reader.buffer reader.stage _ c.in-Fault.is c.self.invariant.reached).tells))

pub returns-in-Some : goal.returns-in-Some
returns-in-Some c =
    let reader = c.self.inside in
    rw (← c.self.view_is) (faulty_status reader.method reader.fed.bytes c.in-Some.head
    (subst (λ (head : Option Head). TellsFinalHead reader.fed.bytes head) c.in-Some.is
    (at_stage reader.method reader.fed.bytes reader.buffer reader.stage _ c.in-Fault.is c.self.invariant.reached).tells))
