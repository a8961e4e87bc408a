use Rattle.persistence.proofs.SplitLemmas.{split_unique}
use Rattle.persistence.proofs.laws.split_is_unique.Goals as goal

pub returns : goal.returns
returns c = split_unique
