-- Which seats a pass has once one of its accounts changed.
use Rattle.std.proofs.Common.{◌≡◌, ℕ, zero, suc, ◌+◌, ◌<◌, List, [], ◌∷◌, length, slice_set, slice_index_or, Option, Some, None, sym, ap, subst, inl, inr, ◌∙◌, arith}
use Rattle.std.proofs.lemmas.Bool.Decides.{eqb_tells}
use Rattle.std.proofs.lemmas.List.{get_or-set_same, get_or-set_other, get_or_default}
use Rattle.atomic_table.specs.Seated.{TableId}
use Rattle.budget.specs.Starts.{Spendings}
use Rattle.budget.specs.declared.pass.Account.{Account}
use Rattle.budget.specs.Accounts.{vacant, account_at, IsEnrolledAt, KeepsSeats}

module _ {D : Type 0} where
  -- the account has a seat at that tally
  abbrev pub HasSeat : Account D → TableId → Type 0
  HasSeat account table = (spent : ℕ) × (account.seat ≡ Some (record { table = table; spent = spent }))

  -- a pass has a seat only where it has an account
  pub enrolled_there : (accounts : List (Account D)) (host : ℕ) (table : TableId) → IsEnrolledAt accounts host table → host < length accounts
  enrolled_there [] host table seat = absurd (cc)
  enrolled_there (a ∷ accounts) zero table seat = omega arith
  enrolled_there (a ∷ accounts) (suc host) table seat = omega (arith, enrolled_there accounts host table seat)

  -- the account that was there is the one read
  pub account_read : (accounts inside : List (Account D)) (host : ℕ) (was : Account D) → inside ≡ accounts → host < length accounts → was ≡ slice_index_or inside host was → account_at accounts host ≡ was
  account_read accounts inside host was view there read =
      ap (λ items. account_at items host) (sym view) ∙ get_or_default inside host vacant was (subst (λ (items : List (Account D)). host < length items) (sym view) there) ∙ sym read

  pub keeps_seats : (accounts inside : List (Account D)) (host : ℕ) (now : Account D) → inside ≡ accounts → host < length accounts → ((table : TableId) → HasSeat (account_at accounts host) table → HasSeat now table) → KeepsSeats accounts (slice_set inside host now)
  keeps_seats accounts inside host now view there has h table seat = elim (eqb_tells h host) [
    | inl same ↦
        let it : IsEnrolledAt accounts host table = subst (λ (k : ℕ). IsEnrolledAt accounts k table) same.1 seat in
        let is : account_at (slice_set accounts host now) host ≡ now = get_or-set_same accounts host now vacant there in
        let kept : IsEnrolledAt (slice_set accounts host now) h table = subst (λ (k : ℕ). IsEnrolledAt (slice_set accounts host now) k table) (sym same.1) (subst (λ (a : Account D). HasSeat a table) (sym is) (has table it)) in
        subst (λ (items : List (Account D)). IsEnrolledAt (slice_set items host now) h table) (sym view) kept
    | inr other ↦
        let is : account_at (slice_set accounts host now) h ≡ account_at accounts h = get_or-set_other accounts host h now vacant other.1 in
        let kept : IsEnrolledAt (slice_set accounts host now) h table = subst (λ (a : Account D). HasSeat a table) (sym is) seat in
        subst (λ (items : List (Account D)). IsEnrolledAt (slice_set items host now) h table) (sym view) kept
  ]

pub none_is_some : {A B : Type 0} {a : A} → None ≡ Some a → B
none_is_some e = absurd (cc)

-- a lease that is spent changes no seat's tally
pub same_tally : (seat after : Spendings) (table : TableId) (spent : ℕ) → (let it : Option Spendings = Some seat in it ≡ Some (record { table = table; spent = spent })) → (let more : Spendings = record { table = seat.table; spent = seat.spent + 1 } in after ≡ more) → (let its : Spendings = record { table = table; spent = after.spent } in after ≡ its)
same_tally seat after table spent is now =
    let here : table ≡ seat.table = ap (λ (o : Option Spendings). table_of o) (sym is) in
    let same : after.table ≡ table = ap (λ (s : Spendings). s.table) now ∙ sym here in
    ap (λ (k : TableId). put k) same
  where
    table_of : Option Spendings → TableId
    table_of None = table
    table_of (Some s) = s.table

    put : TableId → Spendings
    put k = record { table = k; spent = after.spent }
