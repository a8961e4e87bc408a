use Rattle.std.proofs.Common.{◌≡◌, false}
use Rattle.budget.specs.Marks.{mark_at}
use Rattle.foundation_tests.proofs.limits.threads.come_and_go.Given as goal

abbrev pub invariant-loop : goal.invariant-loop
invariant-loop g l = l.mark ≡ mark_at g.B.Room.table l.host false
