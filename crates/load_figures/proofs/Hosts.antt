-- What is counted host by host.
use Rattle.std.proofs.Common.{◌≡◌, ℕ, zero, suc, ◌<◌, ◌≤◌, List, [], ◌∷◌, length, get_or, slice_set, refl, ap, arith}
use Rattle.exchange.specs.declared.done.Done.{Done}
use Rattle.load_figures.specs.declared.job_counts.JobCounts.{JobCounts}
use Rattle.load_figures.specs.declared.outcome.Outcome.{Outcome}
use Rattle.load_figures.specs.Counts.{counted}
use Rattle.load_figures.specs.Figures.{counted_at}

-- a job of a host that is there
pub counted_there : (host : ℕ) (done : Done) (outcome : Outcome) (latency : ℕ) (hosts : List JobCounts) (own : JobCounts) → host < length hosts
    → slice_set hosts host (counted done outcome latency (get_or hosts host own)) ≡ counted_at host done outcome latency hosts
counted_there host done outcome latency [] own there = absurd (omega arith)
counted_there zero done outcome latency (counts ∷ hosts) own there = refl
counted_there (suc host) done outcome latency (counts ∷ hosts) own there =
    ap (λ rest. counts ∷ rest) (counted_there host done outcome latency hosts own (omega arith))

-- and of one that is not
pub counted_past : (host : ℕ) (done : Done) (outcome : Outcome) (latency : ℕ) (hosts : List JobCounts) → length hosts ≤ host → hosts ≡ counted_at host done outcome latency hosts
counted_past host done outcome latency [] past = refl
counted_past zero done outcome latency (counts ∷ hosts) past = absurd (omega arith)
counted_past (suc host) done outcome latency (counts ∷ hosts) past = ap (λ rest. counts ∷ rest) (counted_past host done outcome latency hosts (omega arith))
