use Rattle.cache.proofs.RestingHosts.{new_is_at_rest}
use Rattle.cache.proofs.Turns.{serving_ends_at_rest}
use Rattle.cache.proofs.Acquires.{acquire_ends_at_rest}
use Rattle.cache.proofs.Spends.{give_back_ends_at_rest, abandon_ends_at_rest, withdraw_ends_at_rest}
use Rattle.cache.proofs.PrunesAndLimits.{prune_ends_at_rest, limit_ends_at_rest}
use Rattle.cache.proofs.laws.calls_leave_all_at_rest.Goals as goal

pub returns-clause-at_first : goal.returns-clause-at_first
returns-clause-at_first c = new_is_at_rest

pub returns-clause-serving : goal.returns-clause-serving
returns-clause-serving c = serving_ends_at_rest

pub returns-clause-acquire : goal.returns-clause-acquire
returns-clause-acquire c = acquire_ends_at_rest

pub returns-clause-give_back : goal.returns-clause-give_back
returns-clause-give_back c = give_back_ends_at_rest

pub returns-clause-abandon : goal.returns-clause-abandon
returns-clause-abandon c = abandon_ends_at_rest

pub returns-clause-withdraw : goal.returns-clause-withdraw
returns-clause-withdraw c = withdraw_ends_at_rest

pub returns-clause-prune : goal.returns-clause-prune
returns-clause-prune c = prune_ends_at_rest

pub returns-clause-limit : goal.returns-clause-limit
returns-clause-limit c = limit_ends_at_rest
