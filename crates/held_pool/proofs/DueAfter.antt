-- What the slots hold is due after a call, if it was before.
use Rattle.std.proofs.Common.{◌≡◌, ◌≢◌, ℕ, ◌<◌, Bool, true, cond, List, length, Option, Some, None, refl, sym, ap, subst, ◌∙◌, inl, inr, arith}
use Rattle.std.specs.Prelude.{◌==◌, IfSome}
use Rattle.std.proofs.lemmas.Bool.Decides.{eqb_tells, nat_tests}
use Rattle.conn_log.specs.declared.entry.Want.{Want}
use Rattle.bundle.specs.declared.answers.Acquired.{Acquired}
use Rattle.bundle.specs.declared.answers.Acquired.TheVariants.{Lease, Wait}
use Rattle.bundle.specs.Lease.{lease_number, ticket_want}
use Rattle.cache.specs.Pools.{PoolShown, host_at, KeepsHosts, StaysPool}
use Rattle.cache.specs.PoolCalls.{IsCallAt}
use Rattle.held_pool.specs.declared.slot_place.Place.{Place}
use Rattle.held_pool.specs.Slots.{place_at, ChangesPlace}
use Rattle.held_pool.specs.Due.{holder_of, IsDue, HasNothing, held_at, AreDue}

abbrev pub IsNot : ℕ × ℕ → ℕ × ℕ → Type 0
IsNot one other = one ≡ other → ⊥

pub itself : (n : ℕ) → (n == n) ≡ true
itself n = grind (arith, nat_tests)

-- a call that changes the lease or ticket of one transfer at one site alone
pub record ChangesOne {S : Type 0} (old new : PoolShown S) (one : ℕ × ℕ) : Type 0 where
  pub count : length new.hosts ≡ length old.hosts
  pub tables : (host : ℕ) → host < length old.hosts → (host_at new host).tables ≡ (host_at old host).tables
  pub leases : (host t : ℕ) → host < length old.hosts → IsNot (host, t) one → lease_number (host_at new host) t ≡ lease_number (host_at old host) t
  pub tickets : (host t : ℕ) → host < length old.hosts → IsNot (host, t) one → ticket_want (host_at new host) t ≡ ticket_want (host_at old host) t

-- a test for another number fails
other_fails : {A : Type 0} (site t q : ℕ) (own rest : A) → IsNot (site, q) (site, t) → cond (t == q) own rest ≡ rest
other_fails site t q own rest other = elim (eqb_tells t q) [
  | inl same ↦ absurd (other (ap (λ (n : ℕ). (site, n)) (sym same.1)))
  | inr fails ↦ ap (λ (test : Bool). cond test own rest) fails.0
]

module _ {S : Type 0} (old new : PoolShown S) where
  -- a call at one host, which tells what its transfer has then
  pub changes_one : (site t : ℕ) (lease : Option ℕ) (want : Option Want) → IsCallAt site old new
      → ((q : ℕ) → lease_number (host_at new site) q ≡ cond (t == q) lease (lease_number (host_at old site) q))
      → ((q : ℕ) → ticket_want (host_at new site) q ≡ cond (t == q) want (ticket_want (host_at old site) q))
      → ChangesOne old new (site, t)
  changes_one site t lease want call leases tickets = record {
    count = call.stays.count;
    tables = λ host there. elim (eqb_tells host site) [
      | inl same ↦ subst (λ (h : ℕ). (host_at new h).tables ≡ (host_at old h).tables) (sym same.1) call.host.same.tables
      | inr other ↦ (call.others host there other.1).stays.same.tables
    ];
    leases = λ host q there other. elim (eqb_tells host site) [
      | inl same ↦
          let here : IsNot (site, q) (site, t) = subst (λ (h : ℕ). IsNot (h, q) (site, t)) same.1 other in
          subst (λ (h : ℕ). lease_number (host_at new h) q ≡ lease_number (host_at old h) q) (sym same.1) (leases q ∙ other_fails site t q lease (lease_number (host_at old site) q) here)
      | inr away ↦ (call.others host there away.1).keeps.leases q
    ];
    tickets = λ host q there other. elim (eqb_tells host site) [
      | inl same ↦
          let here : IsNot (site, q) (site, t) = subst (λ (h : ℕ). IsNot (h, q) (site, t)) same.1 other in
          subst (λ (h : ℕ). ticket_want (host_at new h) q ≡ ticket_want (host_at old h) q) (sym same.1) (tickets q ∙ other_fails site t q want (ticket_want (host_at old site) q) here)
      | inr away ↦ (call.others host there away.1).keeps.tickets q
    ];
  }

  -- a call that keeps all leases and tickets
  pub changes_none : KeepsHosts old new → StaysPool old new → (one : ℕ × ℕ) → ChangesOne old new one
  changes_none keeps stays one = record {
    count = stays.count;
    tables = λ host there. (keeps host there).stays.same.tables;
    leases = λ host q there other. (keeps host there).keeps.leases q;
    tickets = λ host q there other. (keeps host there).keeps.tickets q;
  }

  -- what another transfer has is due still
  pub due_still : (one : ℕ × ℕ) → ChangesOne old new one → (x : Acquired S) → IsDue old x → IsNot (holder_of x) one → IsDue new x
  due_still one change (Lease lease) due other =
      let made = due.0 in (
        record { there = subst (λ (n : ℕ). lease.site < n) (sym change.count) made.there; tables = made.tables ∙ sym (change.tables lease.site made.there) },
        change.leases lease.site lease.start.want.transfer made.there other ∙ due.1,
      )
  due_still one change (Wait ticket) due other =
      let made = due.0 in (
        record { there = subst (λ (n : ℕ). ticket.site < n) (sym change.count) made.there; tables = made.tables ∙ sym (change.tables ticket.site made.there) },
        change.tickets ticket.site ticket.wait.want.transfer made.there other ∙ due.1,
      )

-- a transfer that has nothing at a site has nothing in a slot
pub nothing_due : {S : Type 0} (pool : PoolShown S) (site t : ℕ) → HasNothing (host_at pool site) t → (x : Acquired S) → IsDue pool x → IsNot (holder_of x) (site, t)
nothing_due pool site t nothing (Lease lease) due same =
    let is : lease_number (host_at pool site) t ≡ Some lease.start.number = subst (λ (p : ℕ × ℕ). lease_number (host_at pool p.0) p.1 ≡ Some lease.start.number) same due.1 in
    let both : Some lease.start.number ≡ None = sym is ∙ nothing.0 in
    absurd cc
nothing_due pool site t nothing (Wait ticket) due same =
    let is : ticket_want (host_at pool site) t ≡ Some ticket.wait.want = subst (λ (p : ℕ × ℕ). ticket_want (host_at pool p.0) p.1 ≡ Some ticket.wait.want) same due.1 in
    let both : Some ticket.wait.want ≡ None = sym is ∙ nothing.1 in
    absurd cc

-- one place changes
module _ {S : Type 0} (places next : List (Place (Acquired S))) (one : ℕ) (place : Place (Acquired S)) (changes : ChangesPlace places next one place) where
  pub held_there : held_at next one ≡ place.held
  held_there = ap (λ (p : Place (Acquired S)). p.held) (changes one ∙ ap (λ (test : Bool). cond test place (place_at places one)) (itself one))

  pub held_else : (index : ℕ) → index ≢ one → held_at next index ≡ held_at places index
  held_else index other = elim (eqb_tells index one) [
    | inl same ↦ absurd (other same.1)
    | inr fails ↦ ap (λ (p : Place (Acquired S)). p.held) (changes index ∙ ap (λ (test : Bool). cond test place (place_at places index)) fails.0)
  ]

  -- nothing else of that transfer is held
  abbrev pub IsAlone : ℕ × ℕ → Type 0
  IsAlone who = (index : ℕ) (x : Acquired S) → index ≢ one → held_at places index ≡ Some x → IsNot (holder_of x) who

  module _ (old new : PoolShown S) (who : ℕ × ℕ) (due : AreDue old places) (change : ChangesOne old new who) (alone : IsAlone who) (its : IfSome place.held (λ x. IsDue new x × (holder_of x ≡ who))) where
    -- what a place holds then, by whether it changed
    pub each_due : (index : ℕ) (x : Acquired S) → held_at next index ≡ Some x → IsDue new x
    each_due index x is = elim (eqb_tells index one) [
      | inl same ↦
          let here : place.held ≡ Some x = sym held_there ∙ subst (λ (i : ℕ). held_at next i ≡ Some x) same.1 is in
          (subst (λ (held : Option (Acquired S)). IfSome held (λ y. IsDue new y × (holder_of y ≡ who))) here its).0
      | inr other ↦
          let there : held_at places index ≡ Some x = sym (held_else index other.1) ∙ is in
          let was : IsDue old x = subst (λ (held : Option (Acquired S)). IfSome held (IsDue old)) there (due.each index) in
          due_still old new who change x was (alone index x other.1 there)
    ]

    who_there : (x : Acquired S) → held_at next one ≡ Some x → holder_of x ≡ who
    who_there x is = (subst (λ (held : Option (Acquired S)). IfSome held (λ y. IsDue new y × (holder_of y ≡ who))) (sym held_there ∙ is) its).1

    apart_from : (index : ℕ) (x y : Acquired S) → index ≢ one → held_at next one ≡ Some x → held_at next index ≡ Some y → IsNot (holder_of x) (holder_of y)
    apart_from index x y other is other_is same = alone index y other (sym (held_else index other) ∙ other_is) (sym same ∙ who_there x is)

    pub due_after : AreDue new next
    due_after = record {
      each = λ index. by_held index (held_at next index) refl;
      apart = λ i j x y is js same. by_places i j x y is js same;
    }
      where
        by_held : (index : ℕ) (held : Option (Acquired S)) → held_at next index ≡ held → IfSome held (IsDue new)
        by_held index None is = tt
        by_held index (Some x) is = each_due index x is

        by_places : (i j : ℕ) (x y : Acquired S) → held_at next i ≡ Some x → held_at next j ≡ Some y → holder_of x ≡ holder_of y → i ≡ j
        by_places i j x y is js same = elim (eqb_tells i one) [
          | inl first ↦ elim (eqb_tells j one) [
            | inl second ↦ first.1 ∙ sym second.1
            | inr other ↦ absurd (apart_from j x y other.1 (subst (λ (k : ℕ). held_at next k ≡ Some x) first.1 is) js same)
          ]
          | inr away ↦ elim (eqb_tells j one) [
            | inl second ↦ absurd (apart_from i y x away.1 (subst (λ (k : ℕ). held_at next k ≡ Some y) second.1 js) is (sym same))
            | inr other ↦ due.apart i j x y (sym (held_else i away.1) ∙ is) (sym (held_else j other.1) ∙ js) same
          ]
        ]
