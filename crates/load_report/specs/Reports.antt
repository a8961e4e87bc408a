-- The numbers of a report.
use Rattle.std.specs.Prelude.{◌≡◌, ℕ, suc, ◌+◌, ◌*◌, ◌/◌, ◌<◌, List, [], ◌∷◌, take, drop, All, IfSome, MatchOption, sum_by}
use Rattle.load_figures.specs.Percentiles.{IsPercentileAt}
use Rattle.load_figures.specs.Tally.{Tally, values_in}
use Rattle.load_figures.specs.declared.job_counts.JobCounts.{JobCounts}
use Rattle.load_report.specs.declared.report_numbers.Connections.{Connections}
use Rattle.load_report.specs.declared.report_numbers.HostRun.{HostRun}
use Rattle.load_report.specs.declared.report_numbers.JobReport.{JobReport}
use Rattle.load_report.specs.declared.report_numbers.Latencies.{Latencies}
use Rattle.load_report.specs.declared.report_numbers.IntervalLatency.{IntervalLatency}
use Rattle.load_report.specs.declared.report_numbers.IntervalReport.{IntervalReport}
use Rattle.load_figures.specs.Counts.{capped}
use Rattle.load_figures.specs.Intervals.{IntervalCounts, IntervalLine, IsLatencyAt}

-- how many there are in a second, in so many parts of one, rounded to the nearest; none in no time
pub record IsRateOf (count elapsed parts rate : ℕ) : Type 0 where
  pub in_no_time : elapsed ≡ 0 → rate ≡ 0
  pub in_time : 0 < elapsed → rate ≡ capped ((count * (1000000 * parts) + elapsed / 2) / elapsed)

-- percentiles of the latencies of some jobs, the greatest and the mean
pub record AreLatencies (tally : Tally) (latencies : Latencies) : Type 0 where
  pub p50 : IsPercentileAt tally 500 latencies.p50
  pub p90 : IsPercentileAt tally 900 latencies.p90
  pub p99 : IsPercentileAt tally 990 latencies.p99
  pub p999 : IsPercentileAt tally 999 latencies.p999
  pub max : latencies.max ≡ tally.greatest
  pub mean : latencies.mean ≡ tally.total / values_in tally

-- what came of jobs is what was counted of them
pub record IsReportOf (counts : JobCounts) (report : JobReport) : Type 0 where
  pub requests : report.requests ≡ capped (counts.good + counts.failed)
  pub good : report.good ≡ counts.good
  pub failed : report.failed ≡ counts.failed
  pub stopped : report.stopped ≡ counts.stopped
  pub retried : report.retried ≡ counts.retried
  pub reused : report.reused ≡ counts.reused
  pub bytes : report.bytes ≡ counts.bytes
  pub statuses : report.statuses ≡ counts.statuses
  pub faults : report.faults ≡ counts.faults
  pub latencies : MatchOption report.latencies (values_in counts.latencies ≡ 0) (AreLatencies counts.latencies)

-- what came of the jobs of hosts is what was counted of them, host by host
abbrev pub AreReportsOf : List JobCounts → List JobReport → Type 0
AreReportsOf [] [] = Unit {0}
AreReportsOf [] (report ∷ reports) = ⊥
AreReportsOf (counts ∷ hosts) [] = ⊥
AreReportsOf (counts ∷ hosts) (report ∷ reports) = IsReportOf counts report × AreReportsOf hosts reports

-- the connections of all hosts: each count is a sum
abbrev pub connections_of : List HostRun → Connections
connections_of hosts = record {
  opened = capped (sum_by (λ (host : HostRun). host.connections.opened) hosts);
  reused = capped (sum_by (λ (host : HostRun). host.connections.reused) hosts);
  closed = capped (sum_by (λ (host : HostRun). host.connections.closed) hosts);
  waited = capped (sum_by (λ (host : HostRun). host.connections.waited) hosts);
  «open» = capped (sum_by (λ (host : HostRun). host.connections.open) hosts);
}

-- latencies of the jobs of an interval
pub record AreIntervalLatencies (interval : IntervalCounts) (latency : IntervalLatency) : Type 0 where
  pub p50 : IsLatencyAt interval 50 latency.p50_us
  pub p99 : IsLatencyAt interval 99 latency.p99_us
  pub max : latency.max_us ≡ interval.greatest

-- what was done in the interval at a place is what was counted in it
pub record IsIntervalReport (place length_us : ℕ) (interval : IntervalCounts) (report : IntervalReport) : Type 0 where
  pub start_us : report.start_us ≡ capped (place * length_us)
  pub requests : report.requests ≡ interval.requests
  pub failed : report.failed ≡ interval.failed
  pub latency : IfSome report.latency (AreIntervalLatencies interval)

-- what was done in intervals, the first of which is at that place
abbrev pub AreIntervalReports : ℕ → ℕ → List IntervalCounts → List IntervalReport → Type 0
AreIntervalReports place length_us [] [] = Unit {0}
AreIntervalReports place length_us [] (report ∷ reports) = ⊥
AreIntervalReports place length_us (interval ∷ intervals) [] = ⊥
AreIntervalReports place length_us (interval ∷ intervals) (report ∷ reports) =
    IsIntervalReport place length_us interval report × AreIntervalReports (suc place) length_us intervals reports

-- no job was done in any of them
abbrev pub AreIdle : List IntervalCounts → Type 0
AreIdle intervals = All (λ (interval : IntervalCounts). interval.requests ≡ 0) intervals

-- what was done in the first intervals; in the others there was nothing
pub record ReportsLine (line : IntervalLine) (reports : List IntervalReport) : Type 0 where
  pub used : ℕ
  pub first : AreIntervalReports 0 line.length_us (take used line.items) reports
  pub others : AreIdle (drop used line.items)
