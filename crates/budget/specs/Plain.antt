-- The budget of one thread.
use Rattle.std.specs.Prelude.{◌≡◌, ◌≢◌, ℕ, ◌≤◌, List, slice_index_or, slice_set, length, replicate}
use Rattle.std.specs.List.{sum_by}
use Rattle.budget.specs.declared.permits.Held.{Held}
use Rattle.budget.specs.declared.permits.Try.{Try}
use Rattle.budget.specs.declared.permits.Try.TheVariants.{Got, Full, Contended}
use Rattle.budget.specs.Limits.{Bounds, AreLimits}
use Rattle.budget.specs.Permits.{held, one_more_open, one_more_kept, if_got}

-- the limits, and what each host holds
pub record Plain : Type 0 where
  pub limits : Bounds
  pub hosts : List Held

-- how many are open over all hosts
abbrev pub alive_in : List Held → ℕ
alive_in hosts = sum_by (λ (h : Held). h.alive) hosts

-- how many are kept over all hosts
abbrev pub kept_in : List Held → ℕ
kept_in hosts = sum_by (λ (h : Held). h.kept) hosts

abbrev pub held_at_host : List Held → ℕ → Held
held_at_host hosts host = slice_index_or hosts host (held 0 0)

-- the budget, with what that host holds changed
abbrev pub changed_at : ℕ → (Held → Held) → Plain → Plain
changed_at host change budget =
    record { limits = budget.limits; hosts = slice_set budget.hosts host (change (held_at_host budget.hosts host)) }

-- a budget of which nothing is held
abbrev pub nothing_held : Bounds → ℕ → Plain
nothing_held limits hosts = record { limits = limits; hosts = replicate hosts (held 0 0) }

-- the limits are limits, and neither number is above its own
pub record IsWithin (budget : Plain) : Type 0 where
  pub limits : AreLimits budget.limits
  pub total : alive_in budget.hosts ≤ budget.limits.total
  pub kept : kept_in budget.hosts ≤ budget.limits.connects

-- what an answer tells where a number is held to a limit: Full only at the limit, and never Contended
abbrev pub TellsOfNumber : ℕ → ℕ → Try → Type 0
TellsOfNumber number limit Got = Unit {0}
TellsOfNumber number limit Full = number ≡ limit
TellsOfNumber number limit Contended = ⊥

abbrev pub TellsOfOpen : Plain → Try → Type 0
TellsOfOpen budget = TellsOfNumber (alive_in budget.hosts) budget.limits.total

abbrev pub TellsOfKept : Plain → Try → Type 0
TellsOfKept budget = TellsOfNumber (kept_in budget.hosts) budget.limits.connects

-- the budget was asked once for that host, and answered so
pub record AsksOpen (host : ℕ) (old new : Plain) (answer : Try) : Type 0 where
  pub told : TellsOfOpen new answer
  pub part : new ≡ changed_at host (if_got answer one_more_open) old

pub record AsksKept (host : ℕ) (old new : Plain) (answer : Try) : Type 0 where
  pub told : TellsOfKept new answer
  pub part : new ≡ changed_at host (if_got answer one_more_kept) old

-- the limits are the same, and so is every host but that one
pub record KeepsOtherHosts (host : ℕ) (old new : Plain) : Type 0 where
  pub limits : new.limits ≡ old.limits
  pub count : length new.hosts ≡ length old.hosts
  pub others : (other : ℕ) → other ≢ host → held_at_host new.hosts other ≡ held_at_host old.hosts other
