-- What a pass is told changes none of its seats.
use Rattle.std.proofs.Common.{◌≡◌, ℕ, ◌+◌, ◌<◌, List, length, Option, Some, None, refl, sym, ap, subst, ◌∙◌}
use Rattle.std.proofs.lemmas.List.{get_or-set_same}
use Rattle.atomic_table.specs.Seated.{TableId}
use Rattle.budget.specs.declared.pass.Account.{Account}
use Rattle.budget.specs.Accounts.{vacant, account_at, told, spent_by, spent_at, IsEnrolledAt}
use Rattle.budget.proofs.Enrolling.{enrolled_there}
use Rattle.conn_log.specs.declared.entry.Entry.{Entry}
use Rattle.bundle.specs.declared.did.Did.{Did}
use Rattle.bundle.specs.Lease.{HostShown}
use Rattle.bundle.specs.Seats.{gone}
use Rattle.bundle.specs.Passes.{Accounts, tells}

-- as many leases are spent with the pass after it was told something as before
pub tells_spends_none : (pass : Accounts) (host : ℕ) (table : TableId) (did : Option Did) → IsEnrolledAt pass host table → spent_at (tells host did pass) host ≡ spent_at pass host
tells_spends_none pass host table None seat = refl
tells_spends_none pass host table (Some did) seat =
    ap (λ (account : Account Did). spent_by account.seat) (get_or-set_same pass host (told did (account_at pass host)) vacant (enrolled_there pass host table seat))

-- the pass has an account under each index that is its host's
pub account_there : {S : Type 0} (pass : Accounts) (host : HostShown S) (index : ℕ) → index ≡ host.host → IsEnrolledAt pass host.host host.tables.starts → index < length pass
account_there pass host index is seat = subst (λ (n : ℕ). n < length pass) (sym is) (enrolled_there pass host.host host.tables.starts seat)

-- the pass is enrolled under each index that is its host's, at each table that is its host's
pub enrolled_at : {S : Type 0} (pass : Accounts) (host : HostShown S) (index : ℕ) (table : TableId) → index ≡ host.host → table ≡ host.tables.starts → IsEnrolledAt pass host.host host.tables.starts → IsEnrolledAt pass index table
enrolled_at pass host index table is its seat = subst (λ (n : ℕ). IsEnrolledAt pass n table) (sym is) (subst (IsEnrolledAt pass host.host) (sym its) seat)

-- where no start is gone more, a pass that is only told something accounts for them
pub accounts_told : {S : Type 0} (old : HostShown S) (log : List Entry) (before after : Accounts) (did : Option Did) → IsEnrolledAt before old.host old.tables.starts → after ≡ tells old.host did before → gone log ≡ gone old.log → gone log + spent_at before old.host ≡ gone old.log + spent_at after old.host
accounts_told old log before after did seat told same =
    let spent : spent_at after old.host ≡ spent_at before old.host = ap (λ (pass : Accounts). spent_at pass old.host) told ∙ tells_spends_none before old.host old.tables.starts did seat in
    ap (λ (n : ℕ). n + spent_at before old.host) same ∙ ap (λ (n : ℕ). gone old.log + n) (sym spent)
