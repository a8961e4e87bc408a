-- What is reported, host by host.
use Rattle.std.proofs.Common.{◌≡◌, ℕ, ◌+◌, ◌<◌, List, [], ◌∷◌, ◌++◌, length, take, get_or, sym, ap, subst, ◌∙◌}
use Rattle.std.proofs.lemmas.List.{take_more}
use Rattle.load_figures.specs.declared.job_counts.JobCounts.{JobCounts}
use Rattle.load_report.specs.declared.report_numbers.JobReport.{JobReport}
use Rattle.load_report.specs.Reports.{AreReportsOf, IsReportOf}

-- the report of one host more
reports_push : (hosts : List JobCounts) (reports : List JobReport) (counts : JobCounts) (report : JobReport) → AreReportsOf hosts reports → IsReportOf counts report
    → AreReportsOf (hosts ++ counts ∷ []) (reports ++ report ∷ [])
reports_push [] [] counts report are is = (is, tt)
reports_push [] (first ∷ reports) counts report are is = absurd are
reports_push (first ∷ hosts) [] counts report are is = absurd are
reports_push (first ∷ hosts) (its ∷ reports) counts report are is = (are.0, reports_push hosts reports counts report are.1 is)

pub reports_more : (hosts : List JobCounts) (n : ℕ) (reports more : List JobReport) (counts : JobCounts) (report : JobReport) → n < length hosts → AreReportsOf (take n hosts) reports
    → counts ≡ get_or hosts n counts → IsReportOf counts report → more ≡ reports ++ report ∷ [] → AreReportsOf (take (n + 1) hosts) more
reports_more hosts n reports more counts report there are counts_is is more_is =
    let next : take n hosts ++ counts ∷ [] ≡ take (n + 1) hosts =
    ap (λ (counts : JobCounts). take n hosts ++ counts ∷ []) counts_is ∙ sym (take_more hosts n counts there) in
    subst (λ reports. AreReportsOf (take (n + 1) hosts) reports) (sym more_is)
    (subst (λ hosts. AreReportsOf hosts (reports ++ report ∷ [])) next (reports_push (take n hosts) reports counts report are is))
