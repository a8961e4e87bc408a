use Rattle.std.proofs.Common.{◌≡◌, ◌-◌, ◌≤◌, replicate, vec_len, vec_capacity}
use Rattle.budget.specs.Accounts.{vacant}
use Rattle.budget.proofs.pass.Pass.new.Given as goal

abbrev pub invariant-loop-accounts : goal.invariant-loop-accounts
invariant-loop-accounts g l =
    (vec_len l.accounts ≤ l.hosts) × (l.hosts ≤ vec_capacity l.accounts) × (l.accounts.items ≡ replicate (vec_len l.accounts) vacant)

abbrev pub decreases-loop-accounts : goal.decreases-loop-accounts
decreases-loop-accounts g l = l.hosts - vec_len l.accounts
