use Rattle.std.proofs.Common.{refl}
use Rattle.std.specs.Fmt.{digits}
use Rattle.load_report.specs.Accounts.{in_places, lines_text, report_text}
use Rattle.load_report.proofs.worked.worked_reports.Goals as goal

pub returns-clause-places : goal.returns-clause-places
unfolding digits in_places
returns-clause-places c = (refl, refl, refl, refl, refl)

pub returns-clause-nothing : goal.returns-clause-nothing
unfolding digits in_places report_text lines_text
returns-clause-nothing c = refl

pub returns-clause-reuse : goal.returns-clause-reuse
unfolding digits in_places report_text lines_text
returns-clause-reuse c = λ answer. refl

pub returns-clause-failures : goal.returns-clause-failures
unfolding digits in_places report_text lines_text
returns-clause-failures c = λ answer. refl

pub returns-clause-greatest : goal.returns-clause-greatest
unfolding digits in_places report_text lines_text
returns-clause-greatest c = λ answer. refl
