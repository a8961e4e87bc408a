-- What the tables show once a lease's seat was taken back, and its lease is spent.
use Rattle.std.proofs.Common.{◌≡◌, ℕ, ◌+◌, List, length, Option, Some, None, refl, sym, ap, subst, ◌∙◌, arith}
use Rattle.std.specs.Option.{IsSome, IfSome}
use Rattle.budget.specs.Pairs.{Pair, pair_count, without_pair}
use Rattle.conn_log.specs.declared.entry.Event.TheVariants.{Left}
use Rattle.conn_log.specs.declared.entry.Entry.{Entry}
use Rattle.conn_log.specs.Connections.{held_number, open_connections, idle_connections}
use Rattle.host_state.specs.State.{IsFreeOf}
use Rattle.host_state.specs.Steps.{add}
use Rattle.bundle.specs.declared.grant.Grant.{Grant}
use Rattle.bundle.specs.Grants.{grant_starts, without_grant, GrantsKept}
use Rattle.bundle.specs.Lease.{Leasing, Using, lease_at}
use Rattle.bundle.specs.Seats.{Tables, SeatsShown, IsSeated, AreUnclaimed, ended_starts, gone}
use Rattle.conn_log.specs.Starts.{start_count}
use Rattle.bundle.proofs.Seating.{Ends, seated_ended, seated_same, unclaimed_same, leased_holds, leased_not_granted, gone_told, spent_ended}

pub same_pair : (a b c d : ℕ) → a ≡ c → b ≡ d → (let first : Pair = (a, b) in let second : Pair = (c, d) in first ≡ second)
same_pair a b c d e1 e2 = cc

-- a transfer's use of its connection ended: that was closed, or it is idle
pub ends_closed : (log after : List Entry) (t : ℕ) → IsFreeOf log after t → start_count after ≡ start_count log → length (open_connections log) ≡ length (open_connections after) + 1 → length (idle_connections after) ≡ length (idle_connections log) → Ends t log after
ends_closed log after t free starts fewer as_many = record { freed = free; lengths = omega (arith, fewer, as_many); starts = starts }

pub ends_idle : (log after : List Entry) (t : ℕ) → IsFreeOf log after t → start_count after ≡ start_count log → length (open_connections after) ≡ length (open_connections log) → length (idle_connections after) ≡ length (idle_connections log) + 1 → Ends t log after
ends_idle log after t free starts as_many more = record { freed = free; lengths = omega (arith, as_many, more); starts = starts }

-- a transfer that waited leaves: who holds what stays
pub seated_left : (log after : List Entry) (held : SeatsShown) (m t : ℕ) → IsSeated log held → after ≡ add m (Left t) log → length (open_connections after) ≡ length (open_connections log) → length (idle_connections after) ≡ length (idle_connections log) → IsSeated after held
seated_left log after held m t seated is as_many_open as_many_idle = seated_same log after held seated (record { same = λ u. ap (λ l. held_number l u) is; lengths = omega (arith, as_many_open, as_many_idle); starts = ap start_count is })

-- the seat of a pair was taken back
module _ (old between : SeatsShown) (pair : Pair) (is : (let taken : SeatsShown = record old { back = Some pair } in between ≡ taken)) where
  pub there_back : IsSome between.back
  there_back = subst (λ (b : SeatsShown). IsSome b.back) (sym is) refl

  pub leased_back : pair_count pair old.leased ≡ 1 → IfSome between.back (λ (p : Pair). pair_count p between.leased ≡ 1)
  leased_back leased = subst (λ (b : SeatsShown). IfSome b.back (λ (p : Pair). pair_count p b.leased ≡ 1)) (sym is) leased

  -- and its pair is held no longer
  pub cleared_back : (after : SeatsShown) → IfSome between.back (λ (p : Pair). let cleared : SeatsShown = record between { leased = without_pair p between.leased; back = None } in after ≡ cleared) → (let cleared : SeatsShown = record old { leased = without_pair pair old.leased; back = None } in after ≡ cleared)
  cleared_back after cleared = subst (λ (b : SeatsShown). IfSome b.back (λ (p : Pair). let gone : SeatsShown = record b { leased = without_pair p b.leased; back = None } in after ≡ gone)) is cleared

  -- or it is handed out again
  pub handed_back : old.back ≡ None → (after : SeatsShown) → (let handed : SeatsShown = record between { back = None } in after ≡ handed) → after ≡ old
  handed_back none after handed =
      handed ∙ ap without_back is ∙ ap (λ (b : Option Pair). put b) (sym none)
    where
      without_back : SeatsShown → SeatsShown
      without_back b = record b { back = None }

      put : Option Pair → SeatsShown
      put b = record old { back = b }

-- the pair of a seat that was taken back and cleared
module _ (log : List Entry) (held : SeatsShown) (pair : Pair) (c t : ℕ) (pair_is : (let mine : Pair = (c, t) in pair ≡ mine)) (seated : IsSeated log held) (leased : pair_count pair held.leased ≡ 1) where
  pub leased_pair : pair_count (c, t) held.leased ≡ 1
  leased_pair = subst (λ (p : Pair). pair_count p held.leased ≡ 1) pair_is leased

  -- was one that the log shows held
  pub lease_held : held_number log t ≡ Some c
  lease_held = leased_holds log held seated c t leased_pair

  -- and is not among the grants
  pub grants_kept : {S : Type 0} (grants : List (Grant S)) → GrantsKept log grants → AreUnclaimed (grant_starts grants) held → grants ≡ without_grant t grants
  grants_kept grants kept unclaimed = sym (leased_not_granted log grants held seated kept unclaimed c t leased_pair)

  module _ (between now : SeatsShown) (taken : (let back : SeatsShown = record held { back = Some pair } in between ≡ back)) (cleared : IfSome between.back (λ (p : Pair). let gone : SeatsShown = record between { leased = without_pair p between.leased; back = None } in now ≡ gone)) where
    spent_is : (let gone : SeatsShown = record held { leased = without_pair (c, t) held.leased; back = None } in now ≡ gone)
    spent_is = subst (λ (p : Pair). let gone : SeatsShown = record held { leased = without_pair p held.leased; back = None } in now ≡ gone) pair_is (cleared_back held between pair taken now cleared)

    pub seated_spent : (after : List Entry) → Ends t log after → IsSeated after now
    seated_spent after ends = seated_ended log after held now c t seated leased_pair ends spent_is

    pub granted_spent : now.granted ≡ held.granted
    granted_spent = ap (λ (h : SeatsShown). h.granted) spent_is

    pub tables_spent : now.tables ≡ held.tables
    tables_spent = ap (λ (h : SeatsShown). h.tables) spent_is

    pub unclaimed_spent : {S : Type 0} (grants : List (Grant S)) → AreUnclaimed (grant_starts grants) held → AreUnclaimed (grant_starts grants) now
    unclaimed_spent grants unclaimed = unclaimed_same (grant_starts grants) held now unclaimed granted_spent

    -- the starts that are gone are one more, whoever starts from then on
    pub gone_spent : (after : List Entry) (later : SeatsShown) → IsSeated after later → ended_starts later ≡ ended_starts now → gone after ≡ gone log + 1
    gone_spent after later seated_later same =
        gone_told after later seated_later ∙ same ∙ spent_ended log held now c t seated leased_pair spent_is ∙ ap (λ n. n + 1) (sym (gone_told log held seated))

-- the table of a lease that was made here, once its seat was taken back
pub tables_here : {S : Type 0} (lease : Leasing S) (used : Using S) (tables : Tables) → lease ≡ lease_at tables used → (old between : SeatsShown) (pair : Pair) (here : Tables) → lease.tables ≡ here → old.tables ≡ here → (let back : SeatsShown = record old { back = Some pair } in between ≡ back) → between.tables ≡ tables
tables_here {S} lease used tables apart old between pair here made told taken = ap (λ (h : SeatsShown). h.tables) taken ∙ told ∙ sym made ∙ ap (λ (l : Leasing S). l.tables) apart

-- a lease that was taken apart: its pair, its number and its transfer
module _ {S : Type 0} (lease : Leasing S) (used : Using S) (tables : Tables) (apart : lease ≡ lease_at tables used) (n t : ℕ) (number : n ≡ used.start.number) (transfer : t ≡ used.start.want.transfer) where
  pub apart_number : n ≡ lease.start.number
  apart_number = number ∙ ap (λ (l : Leasing S). l.start.number) (sym apart)

  pub apart_transfer : t ≡ lease.start.want.transfer
  apart_transfer = transfer ∙ ap (λ (l : Leasing S). l.start.want.transfer) (sym apart)

  pub apart_pair : (pair : Pair) → (let theirs : Pair = (lease.start.number, lease.start.want.transfer) in pair ≡ theirs) → (let mine : Pair = (n, t) in pair ≡ mine)
  apart_pair pair is = is ∙ same_pair lease.start.number lease.start.want.transfer n t (sym apart_number) (sym apart_transfer)
