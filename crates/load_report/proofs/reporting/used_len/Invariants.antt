use Rattle.std.proofs.Common.{◌≤◌, drop, take}
use Rattle.load_report.specs.Reports.{AreIdle}
use Rattle.load_report.proofs.reporting.used_len.Given as goal

-- no job was done behind the last interval that is used, as far as was looked
abbrev pub invariant-loop-place : goal.invariant-loop-place
invariant-loop-place l = (l.used ≤ l.place) × AreIdle (drop l.used (take l.place l.intervals))
