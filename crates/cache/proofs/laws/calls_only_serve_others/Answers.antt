use Rattle.cache.proofs.Servings.{serving_only_serves}
use Rattle.cache.proofs.ServingsElsewhere.{acquire_only_serves, give_back_only_serves, abandon_only_serves, withdraw_only_serves, limit_only_serves, prune_only_serves}
use Rattle.cache.proofs.laws.calls_only_serve_others.Goals as goal

pub returns-clause-serving : goal.returns-clause-serving
returns-clause-serving c = serving_only_serves

pub returns-clause-acquire : goal.returns-clause-acquire
returns-clause-acquire c = acquire_only_serves

pub returns-clause-give_back : goal.returns-clause-give_back
returns-clause-give_back c = give_back_only_serves

pub returns-clause-abandon : goal.returns-clause-abandon
returns-clause-abandon c = abandon_only_serves

pub returns-clause-withdraw : goal.returns-clause-withdraw
returns-clause-withdraw c = withdraw_only_serves

pub returns-clause-limit : goal.returns-clause-limit
returns-clause-limit c = limit_only_serves

pub returns-clause-prune : goal.returns-clause-prune
returns-clause-prune c = prune_only_serves
