-- An audit under way, as contracts see it.
use Rattle.audit_stream.specs.declared.reading.Run.{Run}
use Rattle.audit_stream.specs.Tells.{Told}

abbrev pub told_by : Run → Told
told_by run = record { audited = run.audit; broken = run.teller.is_broken }
