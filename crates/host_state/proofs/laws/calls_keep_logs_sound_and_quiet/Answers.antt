use Rattle.std.proofs.Common.{false, ◌||◌}
use Rattle.conn_log.specs.Connections.{holds}
use Rattle.conn_log.specs.Waiting.{waits}
use Rattle.host_state.proofs.Soundness.{neither, free_of, kept_acquired, kept_given_back, kept_abandon, kept_withdraw, kept_turn, kept_evict, kept_prune, kept_new_limit}
use Rattle.host_state.proofs.laws.calls_keep_logs_sound_and_quiet.Goals as goal

pub returns-clause-acquire : goal.returns-clause-acquire
returns-clause-acquire c is_last told settings log want now kept idle =
    let not_holding = neither (holds log want.transfer) (waits log want.transfer || false) idle in
    let not_waiting = neither (waits log want.transfer) false not_holding.1 in
    kept_acquired is_last told settings log want now kept (free_of settings log kept.sound want.transfer not_holding.0) not_waiting.0

pub returns-clause-give_back : goal.returns-clause-give_back
returns-clause-give_back c = kept_given_back

pub returns-clause-abandon : goal.returns-clause-abandon
returns-clause-abandon c = kept_abandon

pub returns-clause-withdraw : goal.returns-clause-withdraw
returns-clause-withdraw c = kept_withdraw

pub returns-clause-turn : goal.returns-clause-turn
returns-clause-turn c = kept_turn

pub returns-clause-evict : goal.returns-clause-evict
returns-clause-evict c = kept_evict

pub returns-clause-prune : goal.returns-clause-prune
returns-clause-prune c = kept_prune

pub returns-clause-limit : goal.returns-clause-limit
returns-clause-limit c = kept_new_limit
