use Rattle.std.proofs.Common.{false, ◌||◌}
use Rattle.conn_log.specs.Connections.{holds}
use Rattle.conn_log.specs.Waiting.{waits}
use Rattle.host_state.proofs.Soundness.{neither, free_of}
use Rattle.host_state.proofs.TooOldCloses.{none_too_old_left, none_to_prune_left}
use Rattle.host_state.proofs.Counts.{acquire_tidies, acquired_does, given_back_spends, abandon_spends, withdraw_spends, withdraw_leaves, turn_opens, evict_closes, prune_closes, limit_changes}
use Rattle.host_state.proofs.laws.calls_have_their_effects.Goals as goal

pub returns-clause-acquire_tidies : goal.returns-clause-acquire_tidies
returns-clause-acquire_tidies c = acquire_tidies

pub returns-clause-acquire : goal.returns-clause-acquire
returns-clause-acquire c is_last told settings log want now kept idle =
    let not_holding = neither (holds log want.transfer) (waits log want.transfer || false) idle in
    let not_waiting = neither (waits log want.transfer) false not_holding.1 in
    acquired_does is_last told settings log want now kept (free_of settings log kept.sound want.transfer not_holding.0) not_waiting.0

pub returns-clause-give_back : goal.returns-clause-give_back
returns-clause-give_back c = given_back_spends

pub returns-clause-abandon : goal.returns-clause-abandon
returns-clause-abandon c = abandon_spends

pub returns-clause-withdraw_granted : goal.returns-clause-withdraw_granted
returns-clause-withdraw_granted c = withdraw_spends

pub returns-clause-withdraw_waiting : goal.returns-clause-withdraw_waiting
returns-clause-withdraw_waiting c = withdraw_leaves

pub returns-clause-turn : goal.returns-clause-turn
returns-clause-turn c = turn_opens

pub returns-clause-evict : goal.returns-clause-evict
returns-clause-evict c = evict_closes

pub returns-clause-prune : goal.returns-clause-prune
returns-clause-prune c = prune_closes

pub returns-clause-limit : goal.returns-clause-limit
returns-clause-limit c = limit_changes

pub returns-clause-none_too_old : goal.returns-clause-none_too_old
returns-clause-none_too_old c = none_too_old_left

pub returns-clause-none_to_prune : goal.returns-clause-none_to_prune
returns-clause-none_to_prune c = none_to_prune_left
