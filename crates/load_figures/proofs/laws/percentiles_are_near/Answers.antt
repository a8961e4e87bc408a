use Rattle.load_figures.proofs.TallyLemmas.{value_at_is_percentile}
use Rattle.load_figures.proofs.laws.percentiles_are_near.Goals as goal

pub returns : goal.returns
returns c = value_at_is_percentile
