-- The lines of hosts, one after the other.
use Rattle.std.proofs.Common.{◌≡◌, ℕ, suc, ◌+◌, ◌<◌, ◌≤◌, List, [], ◌∷◌, ◌++◌, length, take, get_or, sym, ap, ◌∙◌, arith, append-nil, append_assoc}
use Rattle.std.proofs.lemmas.List.{take_more, length-take, take_all}
use Rattle.shared_cache.specs.declared.gathered.HostCount.{HostCount}
use Rattle.load_report.specs.declared.account_sums.JobSums.{JobSums}
use Rattle.load_report.specs.Accounts.{host_line, host_lines, lines_text, sums_line, total_line}

-- after the lines of some hosts, the first of which has an index, comes the line of the next
host_lines_push : (first : ℕ) (hosts : List HostCount) (host : HostCount) → host_lines first (hosts ++ (host ∷ [])) ≡ host_lines first hosts ++ host_line (first + length hosts) host
host_lines_push first [] host = append-nil (host_line first host) ∙ ap (λ index. host_line index host) {x = first} {y = first + 0} (omega arith)
host_lines_push first (next ∷ hosts) host =
    ap (λ text. host_line first next ++ text) (host_lines_push (first + 1) hosts host ∙ ap (λ index. host_lines (first + 1) hosts ++ host_line index host) {x = first + 1 + length hosts} {y = first + suc (length hosts)} (omega arith))
    ∙ sym (append_assoc (host_line first next) (host_lines (first + 1) hosts) (host_line (first + suc (length hosts)) host))

-- one more line is written after those of the hosts before
pub host_line_written : (before new : List ℕ) (hosts : List HostCount) (index : ℕ) (none : HostCount) → index < length hosts
    → before ≡ host_lines 0 (take index hosts) → new ≡ before ++ host_line index (get_or hosts index none) → new ≡ host_lines 0 (take (index + 1) hosts)
host_line_written before new hosts index none within so_far written =
    let host : HostCount = get_or hosts index none in
    let count : index ≡ 0 + length (take index hosts) = omega (arith, length-take index hosts) in
    written
    ∙ (λ i. so_far i ++ host_line (count i) host)
    ∙ sym (host_lines_push 0 (take index hosts) host)
    ∙ ap (host_lines 0) (sym (take_more hosts index none within))

-- the lines of all hosts, and the two that come after them, are the report
pub report_written : (hosts : List HostCount) (sums : JobSums) (index : ℕ) (first second third : List ℕ) → length hosts ≤ index → first ≡ host_lines 0 (take index hosts)
    → second ≡ first ++ total_line hosts → third ≡ second ++ sums_line sums → third ≡ lines_text hosts sums
unfolding lines_text
report_written hosts sums index first second third past host_part total_part result_part =
    result_part
    ∙ ap (λ text. text ++ sums_line sums) (total_part ∙ ap (λ text. text ++ total_line hosts) (host_part ∙ ap (host_lines 0) (take_all index hosts past)))
    ∙ append_assoc (host_lines 0 hosts) (total_line hosts) (sums_line sums)
