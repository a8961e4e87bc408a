-- The logs behind a script are legal, and a legal log breaks no rule.
use Rattle.std.proofs.Common.{◌≡◌, List, [], ◌∷◌, Option, Some, None}
use Rattle.conn_log.specs.declared.entry.Entry.{Entry}
use Rattle.conn_log.specs.Legal.{IsLegal, LimitAndFirst}
use Rattle.log_judge.specs.Laws.{ALegalLogBreaksNoRule}
use Rattle.cache.specs.AllHosts.{AllHosts, log_at, terms}
use Rattle.script_text.specs.declared.command.Limits.{Limits}
use Rattle.script_engine.specs.Law.{AreLegalUnder}
use Rattle.script_engine.specs.Meaning.{bounds_given}
use Rattle.audit_stream.specs.Scripts.{BreaksNoRule, BreakNoRuleUnder}

legal-log : ALegalLogBreaksNoRule → (settings : LimitAndFirst) (log : List Entry) → IsLegal settings log → BreaksNoRule settings log
legal-log law settings [] legal = tt
legal-log law settings (e ∷ before) legal = (law settings before e legal, legal-log law settings before legal.2)

pub legal-hosts : ALegalLogBreaksNoRule → (limits : Option Limits) (all : AllHosts) → AreLegalUnder limits all → BreakNoRuleUnder limits all
legal-hosts law None all legal = legal
legal-hosts law (Some limits) all legal = λ host there. legal-log law (terms (bounds_given limits)) (log_at all host) (legal host there)
