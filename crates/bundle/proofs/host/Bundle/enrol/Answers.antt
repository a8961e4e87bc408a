use Rattle.std.proofs.Common.{◌≡◌, ℕ, ◌<◌, length, Option, Some, ap, ◌∙◌}
use Rattle.std.proofs.lemmas.List.{get_or-set_same}
use Rattle.atomic_table.specs.Seated.{TableId}
use Rattle.budget.specs.Starts.{Spendings}
use Rattle.budget.specs.declared.pass.Account.{Account}
use Rattle.budget.specs.Accounts.{vacant, account_at, change_at, enrolled, IsEnrolledAt}
use Rattle.bundle.specs.declared.did.Did.{Did}
use Rattle.bundle.specs.Lease.{HostShown}
use Rattle.bundle.specs.Passes.{Accounts}
use Rattle.bundle.proofs.host.Bundle.enrol.Goals as goal

-- a seat with which nothing was spent
abbrev new_seat : TableId → Option Spendings
new_seat table = Some (record { table = table; spent = 0 })

-- the pass that takes it is enrolled there
enrolled_then : (pass after : Accounts) (host index : ℕ) (table here : TableId) (seat : Spendings) → index ≡ host → here ≡ table → host < length pass → (let new : Spendings = record { table = here; spent = 0 } in seat ≡ new) → after ≡ change_at pass index (enrolled seat) → IsEnrolledAt after host table
enrolled_then pass after host index table here seat index_is here_is there seat_is account =
    let at = account ∙ ap (λ (n : ℕ). change_at pass n (enrolled seat)) index_is in
    let read = ap (λ (items : Accounts). account_at items host) at ∙ get_or-set_same pass host (enrolled seat (account_at pass host)) vacant there in
    (0, ap (λ (it : Account Did). it.seat) read ∙ ap (λ (s : Spendings). Some s) seat_is ∙ ap new_seat here_is)

pub invariant_of-self : goal.invariant_of-self
invariant_of-self g c = rw c.seat_pass.ensures.same c.self.invariant

pub returns-clause-enrolled : goal.returns-clause-enrolled
returns-clause-enrolled g c =
    let host = c.host.ensures ∙ ap (λ (v : HostShown g.row.S.Denot). v.host) c.self.view_is in
    let table = ap (λ (v : HostShown g.row.S.Denot). v.tables.starts) c.self.view_is in
    enrolled_then c.args.pass.now c.enrol.new.self c.args.self.now.host c.host.result c.args.self.now.tables.starts c.self.inside.seats.tables.starts c.seat_pass.result host table c.requires.there c.seat_pass.ensures.pass_seat c.enrol.ensures.account
