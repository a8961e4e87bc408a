use Rattle.std.proofs.Common.{◌≡◌, drop}
use Rattle.log_judge.specs.Rules.{first_of}
use Rattle.log_judge.proofs.rules.first_of.Given as goal

-- those looked at are kept
abbrev pub invariant-loop-rule : goal.invariant-loop-rule
invariant-loop-rule l = first_of (drop l.rule-index l.rules) ≡ first_of l.rules
