use Rattle.std.proofs.Common.{false}
use Rattle.persistence.proofs.StageLemmas.{heads_tell, at_stage, body_length, fixed_length}
use Rattle.persistence.proofs.reader.ResponseReader.body_len.Goals as goal

pub returns-in-Heads-clause-told : goal.returns-in-Heads-clause-told
returns-in-Heads-clause-told c =
    let reader = c.self.inside in
    rw (← c.self.view_is) (heads_tell reader.method false reader.fed.bytes false c.in-Heads.skipped reader.buffer
    (at_stage reader.method reader.fed.bytes reader.buffer reader.stage _ c.in-Heads.is c.self.invariant.reached)).length

pub returns-in-Body-clause-told : goal.returns-in-Body-clause-told
returns-in-Body-clause-told c =
    let reader = c.self.inside in
    rw (c.len.ensures, ← c.self.view_is) (body_length reader.method reader.fed.bytes reader.buffer c.in-Body.head c.in-Body.body
    (at_stage reader.method reader.fed.bytes reader.buffer reader.stage _ c.in-Body.is c.self.invariant.reached))

pub returns-in-Fault-clause-told : goal.returns-in-Fault-clause-told
returns-in-Fault-clause-told c =
    let reader = c.self.inside in
    rw (← c.self.view_is) (fixed_length reader.method reader.fed.bytes c.in-Fault.len
    (at_stage reader.method reader.fed.bytes reader.buffer reader.stage _ c.in-Fault.is c.self.invariant.reached).fixes)
