use Rattle.std.proofs.Common.{sym, ap}
use Rattle.persistence.specs.Told.{is_some_text}
use Rattle.persistence.proofs.StageLemmas.{nothing_fed}
use Rattle.persistence.proofs.reader.ResponseReader.new.Goals as goal

pub invariant_of-result : goal.invariant_of-result
invariant_of-result c = record {
  reached = nothing_fed c.new-2.result.bytes c.in-Ok.buffer c.new-2.ensures c.in-Ok.ensures;
  any = sym (ap is_some_text c.new-2.ensures);
}
