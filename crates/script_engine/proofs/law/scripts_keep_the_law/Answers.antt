use Rattle.script_engine.proofs.Lawfulness.{CallsKeep, every_log_is_legal, every_script_ends_at_rest, every_wait_is_for_room, every_lease_was_free, every_start_is_of_the_head}
use Rattle.script_engine.proofs.TicketHolders.{CallsServe, every_ticket_stands}
use Rattle.script_engine.proofs.law.scripts_keep_the_law.Goals as goal

calls_keep : goal.After-calls_only_serve_others → CallsKeep
calls_keep c =
    let rests = c.calls_leave_all_at_rest.ensures in
    record { at_first = rests.at_first; acquire = rests.acquire; give_back = rests.give_back; abandon = rests.abandon; withdraw = rests.withdraw; prune = rests.prune; limit = rests.limit }

calls_serve : goal.After-calls_only_serve_others → CallsServe
calls_serve c =
    let serves = c.calls_only_serve_others.ensures in
    record { reply = c.acquires_start_or_wait.ensures.reply; serving = serves.serving; acquire = serves.acquire; give_back = serves.give_back; abandon = serves.abandon; withdraw = serves.withdraw; limit = serves.limit; prune = serves.prune }

pub returns-clause-legal : goal.returns-clause-legal
returns-clause-legal c = every_log_is_legal (every_script_ends_at_rest (calls_keep c))

pub returns-clause-rest : goal.returns-clause-rest
returns-clause-rest c = every_script_ends_at_rest (calls_keep c)

pub returns-clause-room : goal.returns-clause-room
returns-clause-room c = every_wait_is_for_room c.nobody_waits_beside_room.ensures.waits (every_script_ends_at_rest (calls_keep c))

pub returns-clause-leases : goal.returns-clause-leases
returns-clause-leases c = every_lease_was_free (every_log_is_legal (every_script_ends_at_rest (calls_keep c)))

pub returns-clause-order : goal.returns-clause-order
returns-clause-order c = every_start_is_of_the_head (every_log_is_legal (every_script_ends_at_rest (calls_keep c)))

pub returns-clause-tickets : goal.returns-clause-tickets
returns-clause-tickets c = every_ticket_stands (calls_keep c) (calls_serve c)
