use Rattle.cache.proofs.SpentTransfers.{give_back_leaves_nothing, abandon_leaves_nothing, withdraw_leaves_nothing}
use Rattle.cache.proofs.laws.spending_leaves_nothing.Goals as goal

pub returns-clause-give_back : goal.returns-clause-give_back
returns-clause-give_back c = give_back_leaves_nothing

pub returns-clause-abandon : goal.returns-clause-abandon
returns-clause-abandon c = abandon_leaves_nothing

pub returns-clause-withdraw : goal.returns-clause-withdraw
returns-clause-withdraw c = withdraw_leaves_nothing
