-- A changed limit is told as of a moment that is not before the one handed in.
use Rattle.std.proofs.Common.{◌≡◌, ℕ, ◌≤◌, List, Result, Ok, Err, rules}
use Rattle.conn_log.specs.declared.entry.Entry.{Entry}
use Rattle.budget.specs.declared.refusal.Refusal.{Refusal}
use Rattle.host_state.specs.Steps.{moment_at}
use Rattle.host_state.specs.Calls.{kept_limit}
use Rattle.bundle.specs.declared.answers.Changed.{Changed}
use Rattle.bundle.specs.declared.answers.Changed.TheVariants.{Done, Again}
use Rattle.bundle.specs.Passes.{Accounts, tells, limit_did}
use Rattle.bundle.specs.Replies.{IfChanged}
use Rattle.shared_cache.specs.Passes.{LimitsAs}

not_before : (log : List Entry) (now : ℕ) → now ≤ moment_at log now
not_before log now = search rules

pub changed_as : (site now limit : ℕ) (log : List Entry) (result : Result Changed Refusal) (old new : Accounts) → new ≡ tells site (limit_did (kept_limit limit) (moment_at log now) result) old → IfChanged result (λ freed. LimitsAs site now limit old new)
changed_as site now limit log (Ok (Done freed)) old new told = (moment_at log now, not_before log now, told)
changed_as site now limit log (Ok Again) old new told = tt
changed_as site now limit log (Err refusal) old new told = tt
