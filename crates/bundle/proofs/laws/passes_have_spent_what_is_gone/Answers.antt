use Rattle.bundle.proofs.SpentSums.{lent_one_spends, one_of_them}
use Rattle.bundle.proofs.laws.passes_have_spent_what_is_gone.Goals as goal

pub returns-clause-each_call : goal.returns-clause-each_call
returns-clause-each_call c = lent_one_spends

pub returns-clause-part_of_starts : goal.returns-clause-part_of_starts
returns-clause-part_of_starts c = one_of_them
