use Rattle.host_state.specs.Steps.{moment_at}
use Rattle.host_state.specs.declared.closing.Closing.TheVariants.{Pruned}
use Rattle.host_state.proofs.LimitsInForce.{without_picked_keeps, acquire_keeps, give_back_keeps, abandon_keeps, withdraw_keeps, turn_keeps, limit_becomes}
use Rattle.host_state.proofs.laws.calls_keep_the_limit.Goals as goal

pub returns-clause-acquire : goal.returns-clause-acquire
returns-clause-acquire c = acquire_keeps

pub returns-clause-give_back : goal.returns-clause-give_back
returns-clause-give_back c = give_back_keeps

pub returns-clause-abandon : goal.returns-clause-abandon
returns-clause-abandon c = abandon_keeps

pub returns-clause-withdraw : goal.returns-clause-withdraw
returns-clause-withdraw c = withdraw_keeps

pub returns-clause-turn : goal.returns-clause-turn
returns-clause-turn c = turn_keeps

pub returns-clause-prune : goal.returns-clause-prune
returns-clause-prune c settings log max_age max_life now = without_picked_keeps settings (Pruned max_age max_life) (moment_at log now) log

pub returns-clause-limit : goal.returns-clause-limit
returns-clause-limit c = limit_becomes
