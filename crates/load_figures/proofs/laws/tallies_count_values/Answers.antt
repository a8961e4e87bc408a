use Rattle.load_figures.proofs.TallyLemmas.{counts_of, number_of, tallies_add_up, total_of}
use Rattle.load_figures.proofs.laws.tallies_count_values.Goals as goal

pub returns-clause-counts : goal.returns-clause-counts
returns-clause-counts c = counts_of

pub returns-clause-number : goal.returns-clause-number
returns-clause-number c = number_of

pub returns-clause-total : goal.returns-clause-total
returns-clause-total c = total_of

pub returns-clause-add_up : goal.returns-clause-add_up
returns-clause-add_up c = tallies_add_up
