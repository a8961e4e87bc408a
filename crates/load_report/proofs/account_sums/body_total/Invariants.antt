use Rattle.std.proofs.Common.{◌≡◌, sum_by, take}
use Rattle.load_report.specs.Accounts.{shown_sum, body_len}
use Rattle.load_report.proofs.account_sums.body_total.Given as goal

-- the bytes of the transfers so far
abbrev pub invariant-loop-done : goal.invariant-loop-done
invariant-loop-done l = l.total ≡ shown_sum (sum_by body_len (take l.done-index l.results))
