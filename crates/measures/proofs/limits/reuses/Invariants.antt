use Rattle.std.proofs.Common.{◌<◌, length}
use Rattle.budget.specs.Plain.{IsWithin}
use Rattle.measures.proofs.limits.reuses.Given as goal

abbrev pub invariant-loop : goal.invariant-loop
invariant-loop l = (l.part.host < length l.part.budget.now.hosts) × IsWithin l.part.budget.now
