-- The sites of a load's own requests are numbered.
use Rattle.std.proofs.Common.{◌≡◌, arith, length, min, subst}
use Rattle.commands.specs.Numbering.{AreNumbered}
use Rattle.load_run.proofs.OwnJobs.{own_numbered}
use Rattle.load_run.proofs.load.own_server.add_own.Goals as goal

pub invariant_of-plan-2 : goal.invariant_of-plan-2
invariant_of-plan-2 c =
    let ports = c.args.ports.now in
    let jobs = c.in_ok-plan-2.field-0.items in
    let none : min 0 (length ports) ≡ 0 = omega arith in
    record { numbered = subst (λ n. AreNumbered n jobs) none (own_numbered c.args.plan.now.flags ports 0 jobs c.requires.some c.in_ok-plan-2.ensures.jobs) }
