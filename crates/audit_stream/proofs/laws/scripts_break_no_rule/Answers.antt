use Rattle.script_engine.specs.Law.{all_behind, limits_of}
use Rattle.audit_stream.proofs.LegalScripts.{legal-hosts}
use Rattle.audit_stream.proofs.laws.scripts_break_no_rule.Goals as goal

pub returns : goal.returns
returns c = λ script. legal-hosts c.rules_are_those_of_legal_logs.ensures.legal (limits_of script) (all_behind script) (c.scripts_keep_the_law.ensures.legal script)
