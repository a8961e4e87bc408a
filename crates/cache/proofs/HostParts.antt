-- What a call that is lent one host's part of a budget leaves of the budget.
use Rattle.std.proofs.Common.{◌≡◌, ℕ}
use Rattle.budget.specs.Plain.{Plain, held_at_host, KeepsOtherHosts}
use Rattle.budget.specs.declared.permits.Held.{Held}

-- that part is what the host then holds, and the others are as they were
pub record ChangesPart (site : ℕ) (budget later : Plain) (holds : Held) : Type 0 where
  pub others : KeepsOtherHosts site budget later
  pub own : held_at_host later.hosts site ≡ holds

-- where the part that was lent is the site's, of that budget, and stays so
pub part_changed : {A : Type 0} {site lent_at at : ℕ} {budget lent later : Plain} {holds : Held}
    → lent_at ≡ site → lent ≡ budget → A × (at ≡ lent_at) × KeepsOtherHosts lent_at lent later → held_at_host later.hosts at ≡ holds → ChangesPart site budget later holds
part_changed site_is budget_is stays own = record {
  others = rw (site_is, budget_is) at stays.2;
  own = rw (stays.1, site_is) at own;
}
