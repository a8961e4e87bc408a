use Rattle.exchange.specs.Answers.{IsUnused}
use Rattle.measures.proofs.transfers.in_turn.Given as goal

abbrev pub invariant-loop : goal.invariant-loop
invariant-loop g l = IsUnused l.parts
