use Rattle.bundle.proofs.Parts.{host_whole, host_legal}
use Rattle.bundle.proofs.host.Bundle.cut.Goals.{in-Ok, in-Err-Exhausted, in-Err-Memory}
use Rattle.bundle.proofs.host.Bundle.cut.Goals as goal

pub returns-clause-whole : goal.returns-clause-whole
returns-clause-whole g c = elim c.match-cut.branch [
  | in-Ok w ↦ rw w.result-is (host_whole _ _ c.self.view_is w.in-Ok.part.items w.in-Ok.ensures.part)
  | in-Err-Exhausted w ↦ rw w.result-is tt
  | in-Err-Memory w ↦ rw w.result-is tt
]

pub returns-clause-legal : goal.returns-clause-legal
returns-clause-legal g c = elim c.match-cut.branch [
  | in-Ok w ↦ rw w.result-is (host_legal _ _ c.self.view_is w.in-Ok.part.items w.in-Ok.ensures.part c.self.invariant.settled.sound.legal)
  | in-Err-Exhausted w ↦ rw w.result-is tt
  | in-Err-Memory w ↦ rw w.result-is tt
]
