use Rattle.std.proofs.Common.{sym, ap}
use Rattle.persistence.specs.Told.{is_some_text}
use Rattle.persistence.proofs.StageLemmas.{nothing_fed}
use Rattle.persistence.proofs.reader.ResponseReader.reset.Goals as goal

pub invariant_of-self : goal.invariant_of-self
invariant_of-self c = record {
  reached = nothing_fed c.new-self-inside.result.bytes c.clear.new.self c.new-self-inside.ensures c.clear.ensures;
  any = sym (ap is_some_text c.new-self-inside.ensures);
}
