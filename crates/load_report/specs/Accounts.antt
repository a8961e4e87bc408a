-- The text of a report: how the connections of a run were used, and how its transfers ended.
use Rattle.std.specs.Prelude.{ℕ, zero, suc, take, drop, ◌+◌, ◌-◌, ◌^◌, ◌==◌, if◌then◌else◌, min, Bool, true, false, List, [], ◌∷◌, ◌++◌, length, replicate, codes, count_by, sum_by}
use Rattle.std.specs.Fmt.{decimal}
use Rattle.std.specs.List.{flat_map}
use Rattle.load_report.specs.declared.account_sums.JobSums.{JobSums}
use Rattle.shared_cache.specs.declared.gathered.HostCount.{HostCount}
use Rattle.exchange.specs.declared.done.Done.{Done}
use Rattle.exchange.specs.declared.done.Done.TheVariants.{Good, Bad}

-- a number in eight places: spaces stand before its digits; a longer number takes the places that it needs
unfoldable pub in_places : ℕ → List ℕ
in_places number = replicate (8 - length (decimal number)) space ++ decimal number
  where
    space : ℕ
    space = 32

-- a line: its label, and its numbers, each in its places
abbrev pub line_text : List ℕ → List ℕ → List ℕ
line_text label numbers = label ++ (flat_map in_places numbers ++ codes "\n")

-- what happened at a host, as its line has it: how many connections were opened, leased again and closed, how many
-- transfers began to wait, and how many connections are open
abbrev pub numbers_of : HostCount → List ℕ
numbers_of count = count.opened ∷ count.reused ∷ count.closed ∷ count.waited ∷ count.alive ∷ []

-- the line of one host: its index, and what happened there
abbrev pub host_line : ℕ → HostCount → List ℕ
host_line index host = line_text (codes "host") (index ∷ numbers_of host)

-- the lines of hosts, in order, the first of which has that index
abbrev pub host_lines : ℕ → List HostCount → List ℕ
host_lines index [] = []
host_lines index (host ∷ hosts) = host_line index host ++ host_lines (index + 1) hosts

-- a sum as the report gives it: one past the greatest u64 is given as that number
abbrev pub shown_sum : ℕ → ℕ
shown_sum sum = min sum (2 ^ 64 - 1)

-- the sums over all hosts
abbrev pub totals : List HostCount → HostCount
totals hosts = record {
  opened = shown_sum (sum_by (λ (host : HostCount). host.opened) hosts);
  reused = shown_sum (sum_by (λ (host : HostCount). host.reused) hosts);
  closed = shown_sum (sum_by (λ (host : HostCount). host.closed) hosts);
  waited = shown_sum (sum_by (λ (host : HostCount). host.waited) hosts);
  alive = shown_sum (sum_by (λ (host : HostCount). host.alive) hosts);
}

-- the sums of each site, if each has `each` consecutive hosts
unfoldable pub sums_by_site : ℕ → ℕ → List HostCount → List HostCount
sums_by_site zero each hosts = []
sums_by_site (suc sites) each hosts = totals (take each hosts) ∷ sums_by_site sites each (drop each hosts)

-- the counts of each site: those of its host, or the sums of its hosts' counts
abbrev pub site_totals : ℕ → ℕ → List HostCount → List HostCount
site_totals sites each hosts = if each == 1 then hosts else sums_by_site sites each hosts

-- the line of all hosts: how many there are, and what happened at all of them
abbrev pub total_line : List HostCount → List ℕ
total_line hosts = line_text (codes "all ") (length hosts ∷ numbers_of (totals hosts))

-- a transfer failed: it has no whole response
abbrev pub is_bad : Done → Bool
is_bad (Good answer) = false
is_bad (Bad fault) = true

-- it has one, over a connection that was used before
abbrev pub is_reused : Done → Bool
is_reused (Good answer) = answer.reused
is_reused (Bad fault) = false

-- it has one, after its request was sent once more
abbrev pub is_retried : Done → Bool
is_retried (Good answer) = answer.retried
is_retried (Bad fault) = false

-- how many bytes the body of its response has, if it has one
abbrev pub body_len : Done → ℕ
body_len (Good answer) = answer.body_len
body_len (Bad fault) = 0

-- the numbers of transfers with these results: how many ended; how many of them failed, had their response over a
-- connection that was used before, and had it after the request was sent again; and how many bytes came as bodies
abbrev pub sums_of : List Done → JobSums
sums_of results = record { jobs = length results; failed = count_by is_bad results; reused = count_by is_reused results; retried = count_by is_retried results; bytes = shown_sum (sum_by body_len results) }

-- the line of the transfers
abbrev pub sums_line : JobSums → List ℕ
sums_line sums = line_text (codes "jobs") (sums.jobs ∷ sums.failed ∷ sums.reused ∷ sums.retried ∷ sums.bytes ∷ [])

-- the report: a line for each host, one of all hosts, and one of the transfers
unfoldable pub lines_text : List HostCount → JobSums → List ℕ
lines_text hosts sums = host_lines 0 hosts ++ (total_line hosts ++ sums_line sums)

unfoldable pub report_text : List HostCount → List Done → List ℕ
report_text hosts results = lines_text hosts (sums_of results)
