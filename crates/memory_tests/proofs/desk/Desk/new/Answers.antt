use Rattle.std.proofs.Common.{arith}
use Rattle.memory_tests.proofs.DeskHost.{new_desk}
use Rattle.memory_tests.proofs.desk.Desk.new.Goals as goal

pub invariant_of-result : goal.invariant_of-result
invariant_of-result c =
    let shared = c.in_ok-shared.ensures in
    new_desk _ c.enrol.new.self _ _ 8 7 _ _ _ c.enrol.new.pass c.in_ok-made.ensures.new_host c.enrol.ensures.same (omega arith) shared.budget shared.lobby (rw c.enrol.ensures.same c.enrol.ensures.enrolled)
