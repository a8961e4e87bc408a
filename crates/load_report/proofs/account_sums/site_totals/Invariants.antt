use Rattle.std.proofs.Common.{◌≡◌, ◌-◌, ◌++◌}
use Rattle.load_report.specs.Accounts.{sums_by_site}
use Rattle.load_report.proofs.account_sums.site_totals.Given as goal

-- the sums so far, and those of the hosts that are left
abbrev pub invariant-loop : goal.invariant-loop
invariant-loop l = l.sums.items ++ sums_by_site (l.sites - l.counter) l.each l.left ≡ sums_by_site l.sites l.each l.hosts
