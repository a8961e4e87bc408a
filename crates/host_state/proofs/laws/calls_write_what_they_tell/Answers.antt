use Rattle.host_state.proofs.Tellings.{start_written, wait_written, return_written, abandon_written, withdraw_written, leaving_written, limit_written}
use Rattle.host_state.proofs.laws.calls_write_what_they_tell.Goals as goal

pub returns-clause-start : goal.returns-clause-start
returns-clause-start c = start_written

pub returns-clause-wait : goal.returns-clause-wait
returns-clause-wait c = wait_written

pub returns-clause-give_back : goal.returns-clause-give_back
returns-clause-give_back c = return_written

pub returns-clause-abandon : goal.returns-clause-abandon
returns-clause-abandon c = abandon_written

pub returns-clause-withdraw_granted : goal.returns-clause-withdraw_granted
returns-clause-withdraw_granted c = withdraw_written

pub returns-clause-withdraw_waiting : goal.returns-clause-withdraw_waiting
returns-clause-withdraw_waiting c = leaving_written

pub returns-clause-limit : goal.returns-clause-limit
returns-clause-limit c = limit_written
