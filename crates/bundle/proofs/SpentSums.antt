-- What several passes have spent at a host.
use Rattle.std.proofs.Common.{◌≡◌, ℕ, ◌+◌, ◌≤◌, List, [], ◌∷◌, ◌++◌, arith}
use Rattle.std.proofs.lemmas.List.Sums.{sum_by-cons}
use Rattle.budget.specs.Accounts.{spent_at}
use Rattle.conn_log.specs.declared.entry.Entry.{Entry}
use Rattle.conn_log.specs.Starts.{start_count}
use Rattle.bundle.specs.Passes.{Accounts, spent_with}
use Rattle.bundle.specs.Seats.{gone}

abbrev spent_here : ℕ → Accounts → ℕ
spent_here host pass = spent_at pass host

-- one pass among others
spent_among : (host : ℕ) (some others : List Accounts) (pass : Accounts) → spent_with host (some ++ pass ∷ others) ≡ spent_at pass host + spent_with host (some ++ others)
spent_among host [] others pass = sum_by-cons (spent_here host) pass others
spent_among host (first ∷ some) others pass =
    omega (arith, sum_by-cons (spent_here host) first (some ++ pass ∷ others), sum_by-cons (spent_here host) first (some ++ others), spent_among host some others pass)

pub lent_one_spends : (host : ℕ) (log after : List Entry) (lent told : Accounts) (some others : List Accounts) → gone after + spent_at lent host ≡ gone log + spent_at told host → spent_with host (some ++ lent ∷ others) ≡ gone log → spent_with host (some ++ told ∷ others) ≡ gone after
lent_one_spends host log after lent told some others accounts were = omega (arith, accounts, were, spent_among host some others lent, spent_among host some others told)

pub one_of_them : (log : List Entry) (host : ℕ) (pass : Accounts) (some others : List Accounts) → spent_with host (some ++ pass ∷ others) ≡ gone log → spent_at pass host ≤ start_count log
one_of_them log host pass some others are = omega (arith, are, spent_among host some others pass)
