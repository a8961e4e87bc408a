use Rattle.cache.proofs.OldestIdle.{oldest_first, none_first_of_all}
use Rattle.cache.proofs.laws.oldest_of_all_goes_first.Goals as goal

pub returns-clause-oldest : goal.returns-clause-oldest
returns-clause-oldest c = oldest_first

pub returns-clause-none : goal.returns-clause-none
returns-clause-none c = none_first_of_all
