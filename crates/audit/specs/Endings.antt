-- Why a connection that came back has to be closed (RFC 9112 section 9, libcurl's CURLOPT_FORBID_REUSE).
use Rattle.std.specs.Prelude.{Bool, true, false, if◌then◌else◌, Option, Some, None}
use Rattle.persistence.specs.declared.facts.Facts.{Facts}
use Rattle.persistence.specs.declared.facts.Version.TheVariants.{V10, V11}
use Rattle.persistence.specs.declared.facts.Framing.TheVariants.{Counted, UntilClose}
use Rattle.conn_log.specs.declared.entry.Cause.{Cause}
use Rattle.conn_log.specs.declared.entry.Cause.TheVariants as causes
use Rattle.script_text.specs.declared.command.Ending.{Ending}
use Rattle.script_text.specs.declared.command.Ending.TheVariants as endings
use Rattle.audit.specs.declared.ended.Ended.{Ended}
use Rattle.audit.specs.declared.ended.Ended.TheVariants as ends

-- a use that forbids reuse ends with any response that was read whole
abbrev pub forbidden_or : Bool → Option Ended → Option Ended
forbidden_or forbids other = if forbids then Some ends.Forbidden else other

-- ended by: why the use ends with a response that ended so, if it does
abbrev pub ended_by : Ending → Bool → Option Ended
ended_by endings.Cut forbids = Some ends.Cut
ended_by endings.Keep forbids = forbidden_or forbids None
ended_by endings.OldKeep forbids = forbidden_or forbids None
ended_by endings.Close forbids = forbidden_or forbids (Some ends.Close)
ended_by endings.Old forbids = forbidden_or forbids (Some ends.Old)
ended_by endings.Eof forbids = forbidden_or forbids (Some ends.Eof)
ended_by endings.Surplus forbids = forbidden_or forbids (Some ends.Surplus)

-- the cause that the connection is closed for
abbrev pub cause_of_end : Ended → Cause
cause_of_end ends.Cut = causes.Cut
cause_of_end ends.Forbidden = causes.Forbidden
cause_of_end ends.Close = causes.NotPersistent
cause_of_end ends.Old = causes.NotPersistent
cause_of_end ends.Eof = causes.NotPersistent
cause_of_end ends.Surplus = causes.NotPersistent

abbrev pub is_closed_for : Ended → Cause → Bool
is_closed_for ends.Cut causes.Cut = true
is_closed_for ends.Forbidden causes.Forbidden = true
is_closed_for ends.Close causes.NotPersistent = true
is_closed_for ends.Old causes.NotPersistent = true
is_closed_for ends.Eof causes.NotPersistent = true
is_closed_for ends.Surplus causes.NotPersistent = true
is_closed_for _ _ = false

-- facts of a response that lets its connection persist, and of one that ends a use so
abbrev pub persistent : Facts
persistent = record { version = V11; close = false; keep_alive = false; request_close = false; framing = Counted; both_lengths = false; upgraded = false; whole = true; surplus = false }

abbrev pub facts_of_end : Ended → Facts
facts_of_end ends.Cut = record persistent { whole = false }
facts_of_end ends.Forbidden = persistent
facts_of_end ends.Close = record persistent { close = true }
facts_of_end ends.Old = record persistent { version = V10 }
facts_of_end ends.Eof = record persistent { framing = UntilClose }
facts_of_end ends.Surplus = record persistent { surplus = true }
