use Rattle.cache.proofs.Growth.{acquire_grows, give_back_grows, abandon_grows, withdraw_grows, prune_grows, limit_grows}
use Rattle.cache.proofs.laws.calls_only_add_to_logs.Goals as goal

pub returns-clause-acquire : goal.returns-clause-acquire
returns-clause-acquire c = acquire_grows

pub returns-clause-give_back : goal.returns-clause-give_back
returns-clause-give_back c = give_back_grows

pub returns-clause-abandon : goal.returns-clause-abandon
returns-clause-abandon c = abandon_grows

pub returns-clause-withdraw : goal.returns-clause-withdraw
returns-clause-withdraw c = withdraw_grows

pub returns-clause-prune : goal.returns-clause-prune
returns-clause-prune c = prune_grows

pub returns-clause-limit : goal.returns-clause-limit
returns-clause-limit c = limit_grows
