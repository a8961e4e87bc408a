use Rattle.script_engine.proofs.Transcripts.{every_event_is_told, every_event_line_names_a_host}
use Rattle.script_engine.proofs.LeaseLines.{every_lease_is_told, every_leased_line_was_free}
use Rattle.script_engine.proofs.law.transcripts_tell_of_their_logs.Goals as goal

pub returns-clause-events : goal.returns-clause-events
returns-clause-events c = every_event_is_told

pub returns-clause-named : goal.returns-clause-named
returns-clause-named c = every_event_line_names_a_host

pub returns-clause-leases : goal.returns-clause-leases
returns-clause-leases c = every_lease_is_told

pub returns-clause-free : goal.returns-clause-free
returns-clause-free c = every_leased_line_was_free c.scripts_keep_the_law.ensures.leases
