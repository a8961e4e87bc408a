-- Whether the logs behind a script's transcript break a rule.
use Rattle.std.specs.Prelude.{◌≡◌, ◌<◌, ℕ, List, [], ◌∷◌, length, Option, Some, None}
use Rattle.conn_log.specs.declared.entry.Entry.{Entry}
use Rattle.conn_log.specs.Legal.{LimitAndFirst}
use Rattle.log_judge.specs.Rules.{first_broken}
use Rattle.cache.specs.AllHosts.{AllHosts, log_at, terms}
use Rattle.script_text.specs.declared.command.Limits.{Limits}
use Rattle.script_engine.specs.Meaning.{bounds_given}
use Rattle.script_engine.specs.Law.{all_behind, limits_of}

-- no entry broke a rule as it came
abbrev pub BreaksNoRule : LimitAndFirst → List Entry → Type 0
BreaksNoRule settings [] = Unit {0}
BreaksNoRule settings (e ∷ before) = (first_broken settings before e ≡ None) × BreaksNoRule settings before

-- nor did any of a host; without limits nothing happened
abbrev pub BreakNoRuleUnder : Option Limits → AllHosts → Type 0
BreakNoRuleUnder None all = (host : ℕ) → log_at all host ≡ []
BreakNoRuleUnder (Some limits) all = (host : ℕ) → host < length all.logs → BreaksNoRule (terms (bounds_given limits)) (log_at all host)

-- so a monitor takes each event of a script's trace, whatever the script
abbrev pub NoScriptBreaksARule : Type 0
NoScriptBreaksARule = (script : List ℕ) → BreakNoRuleUnder (limits_of script) (all_behind script)
