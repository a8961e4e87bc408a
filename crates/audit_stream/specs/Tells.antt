-- What reading lines of a trace comes to, if the violations are told as they show.
use Rattle.std.specs.Prelude.{◌≡◌, ℕ, Bool, false, ◌||◌, nat_lt, List, [], ◌∷◌}
use Rattle.trace_text.specs.Lines.{trace_reading}
use Rattle.audit.specs.Audits.{Audited, KeepsLogs, ReadsLine, not_begun, with_line}

-- the audit, of which no violation is left to be told, and whether any was
pub record Told : Type 0 where
  pub audited : Audited
  pub broken : Bool

abbrev pub nothing_told : Told
nothing_told = record { audited = not_begun; broken = false }

-- the violations that were found are told
abbrev pub told_after : Bool → Audited → Told
told_after broken audited = record { audited = record audited { found = 0 }; broken = broken || nat_lt 0 audited.found }

-- a line is read; lines are, one after another; the trace ends
abbrev pub TellsLine : List ℕ → Told → Told → Type 0
TellsLine line old new = (mid : Audited) × ReadsLine (trace_reading line) (with_line old.audited) mid × (new ≡ told_after old.broken mid)

abbrev pub TellsLines : List (List ℕ) → Told → Told → Type 0
TellsLines [] old new = new ≡ old
TellsLines (line ∷ others) old new = (mid : Told) × TellsLine line old mid × TellsLines others mid new

abbrev pub TellsEnd : Told → Told → Type 0
TellsEnd old new = (mid : Audited) × KeepsLogs old.audited mid × (new ≡ told_after old.broken mid)
