-- How many leases are spent with the pass once one more is, beside the starts that are gone.
use Rattle.std.proofs.Common.{◌≡◌, ℕ, ◌+◌, List, [], ◌∷◌, Option, Some, None, refl, sym, ap, inl, inr, ◌∙◌, arith}
use Rattle.std.specs.Option.{option_map}
use Rattle.std.proofs.lemmas.Bool.Decides.{eqb_tells}
use Rattle.std.proofs.lemmas.List.{get_or-set_same}
use Rattle.atomic_table.specs.Seated.{TableId}
use Rattle.budget.specs.Starts.{Spendings}
use Rattle.budget.specs.declared.pass.Account.{Account}
use Rattle.budget.specs.Accounts.{vacant, account_at, change_at, spent_once, one_spent_more, spent_by, spent_at, IsEnrolledAt}
use Rattle.budget.proofs.Enrolling.{enrolled_there}
use Rattle.conn_log.specs.declared.entry.Entry.{Entry}
use Rattle.host_state.specs.Steps.{moment_at}
use Rattle.bundle.specs.declared.did.Did.{Did}
use Rattle.bundle.specs.declared.grant.Grant.{Grant}
use Rattle.bundle.specs.Grants.{grant_of, grant_start, grant_starts}
use Rattle.bundle.specs.Passes.{Accounts, withdraws}
use Rattle.bundle.specs.Lease.{HostShown, start_for}
use Rattle.bundle.specs.Seats.{gone}

-- one lease more is spent with the pass, where it has a seat
pub spends_one : (pass : Accounts) (host : ℕ) (table : TableId) (did : Did) → IsEnrolledAt pass host table → spent_at (change_at pass host (spent_once did)) host ≡ spent_at pass host + 1
spends_one pass host table did seat =
    ap (λ (account : Account Did). spent_by account.seat) (get_or-set_same pass host (spent_once did (account_at pass host)) vacant (enrolled_there pass host table seat)) ∙ one_more (account_at pass host).seat (record { table = table; spent = seat.0 }) seat.1
  where
    one_more : (taken : Option Spendings) (spendings : Spendings) → taken ≡ Some spendings → spent_by (option_map one_spent_more taken) ≡ spent_by taken + 1
    one_more None spendings is = absurd (cc)
    one_more (Some it) spendings is = refl

-- and one start more is gone
pub accounts_spent : {S : Type 0} (old : HostShown S) (log after : List Entry) → log ≡ old.log → gone after ≡ gone log + 1 → (pass later : Accounts) (host : ℕ) → host ≡ old.host → (table : TableId) (did : Did) → IsEnrolledAt pass old.host table → later ≡ change_at pass host (spent_once did) → gone after + spent_at pass old.host ≡ gone old.log + spent_at later old.host
accounts_spent old log after log_is more pass later host host_is table did seat spent =
    let there = ap (λ (items : Accounts). spent_at items old.host) (spent ∙ ap (λ (h : ℕ). change_at pass h (spent_once did)) host_is) in
    omega (arith, more, ap gone log_is, there, spends_one pass old.host table did seat)

-- the start that a transfer was granted is that of its grant
start_found : {S : Type 0} (grants : List (Grant S)) (t : ℕ) → start_for (grant_starts grants) t ≡ option_map grant_start (grant_of grants t)
start_found [] t = refl
start_found (x ∷ others) t = elim (eqb_tells x.want.transfer t) [
  | inl same ↦ rw same.0 refl
  | inr other ↦ rw other.0 (start_found others t)
]

-- how a ticket ends, from what its transfer was granted
pub withdraws_as : {S : Type 0} (old : HostShown S) (grants : List (Grant S)) → grant_starts grants ≡ old.unclaimed → (found : Option (Grant S)) (t transfer : ℕ) → found ≡ grant_of grants t → t ≡ transfer → (host : ℕ) → host ≡ old.host → (moment now : ℕ) → moment ≡ moment_at old.log now → (pass : Accounts) → withdraws host moment t (option_map grant_start found) pass ≡ withdraws old.host (moment_at old.log now) transfer (start_for old.unclaimed transfer) pass
withdraws_as {S} old grants unclaimed_is found t transfer found_is who host host_is moment now moment_is pass =
    let starts = ap (option_map grant_start) found_is ∙ sym (start_found grants t) ∙ ap (λ unclaimed. start_for unclaimed t) unclaimed_is in
    ap (λ start. withdraws host moment t start pass) starts
    ∙ ap (λ (u : ℕ). withdraws host moment u (start_for old.unclaimed u) pass) who
    ∙ ap (λ (h : ℕ). withdraws h moment transfer (start_for old.unclaimed transfer) pass) host_is
    ∙ ap (λ (m : ℕ). withdraws old.host m transfer (start_for old.unclaimed transfer) pass) moment_is
