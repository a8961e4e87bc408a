-- The results are summed up.
use Rattle.std.proofs.Common.{◌≡◌, subst, string_bytes, String}
use Rattle.std.specs.Prelude.{IfOk}
use Rattle.load_report.specs.Accounts.{lines_text, report_text}
use Rattle.load_report.specs.declared.account_sums.JobSums.{JobSums}
use Rattle.load_report.proofs.account.report_of.Goals as goal

pub returns-clause-text : goal.returns-clause-text
unfolding report_text
returns-clause-text c = subst (λ (sums : JobSums). IfOk c.report_with.result (λ text. string_bytes text ≡ lines_text c.args.hosts.now sums)) c.of.ensures c.report_with.ensures.text
