-- What the slots hold is due after each call.
use Rattle.std.proofs.Common.{◌≡◌, ℕ, ◌<◌, Bool, true, false, cond, List, Option, Some, None, refl, sym, ap, subst, ◌∙◌, inl, inr}
use Rattle.std.specs.Prelude.{◌==◌, IfSome}
use Rattle.std.proofs.lemmas.Bool.Decides.{eqb_tells}
use Rattle.conn_log.specs.declared.entry.Want.{Want}
use Rattle.bundle.specs.declared.answers.Acquired.{Acquired}
use Rattle.bundle.specs.declared.answers.Acquired.TheVariants.{Lease, Wait}
use Rattle.bundle.specs.Lease.{lease_number, ticket_want, Spends, GetsLease, GetsTicket}
use Rattle.cache_trait.specs.CacheCalls.{GivesBy}
use Rattle.cache_trait.specs.Homes.{Gives}
use Rattle.cache.specs.Pools.{PoolShown, host_at, KeepsHosts, StaysPool}
use Rattle.cache.specs.PoolCalls.{IsCallAt, DidToPool, home_of}
use Rattle.cache.proofs.Homes.{made_here, ticket_here}
use Rattle.held_pool.specs.declared.slot_place.Place.{Place}
use Rattle.held_pool.specs.declared.slot.Slot.{Slot}
use Rattle.held_pool.specs.Slots.{SamePlaces, place_at, value_of, value_in, vacated, filled, ChangesPlace, Puts, Takes}
use Rattle.held_pool.specs.Due.{holder_of, IsDue, HasNothing, held_at, AreDue}
use Rattle.held_pool.proofs.DueAfter.{ChangesOne, changes_one, nothing_due, due_after, IsAlone, itself}

-- what a slot names is held in its place
value_held : {T : Type 0} (place : Place T) (generation : ℕ) (x : T) → value_of place generation ≡ Some x → place.held ≡ Some x
value_held place generation x is = by_test (place.generation == generation) is
  where
    by_test : (test : Bool) → cond test place.held None ≡ Some x → place.held ≡ Some x
    by_test true e = e
    by_test false e = cc

-- and its place is that of its generation
value_place : {T : Type 0} (place : Place T) (generation : ℕ) (x : T) → value_of place generation ≡ Some x → place ≡ filled generation x
value_place place generation x is = elim (eqb_tells place.generation generation) [
  | inl same ↦
      let held : place.held ≡ Some x = value_held place generation x is in
      rw (same.1, held) refl
  | inr other ↦ absurd (none_there (subst (λ (test : Bool). cond test place.held None ≡ Some x) other.0 is))
]
  where
    none_there : None ≡ Some x → ⊥
    none_there e = cc

pub slot_held : {S : Type 0} (places : List (Place (Acquired S))) (slot : Slot) (x : Acquired S) → value_in places slot ≡ Some x → held_at places slot.index ≡ Some x
slot_held places slot x is = value_held (place_at places slot.index) slot.generation x is

-- what one place holds is of nobody else
pub alone_in : {S : Type 0} (pool : PoolShown S) (places next : List (Place (Acquired S))) (one : ℕ) (place : Place (Acquired S)) (changes : ChangesPlace places next one place) (x : Acquired S)
    → AreDue pool places → held_at places one ≡ Some x → IsAlone places next one place changes (holder_of x)
alone_in pool places next one place changes x due is index y other there same = other (due.apart index one y x there is same)

-- a test for the same number passes
own_passes : {A : Type 0} (t : ℕ) (own rest : A) → cond (t == t) own rest ≡ own
own_passes t own rest = ap (λ (test : Bool). cond test own rest) (itself t)

module _ {S : Type 0} (old new : PoolShown S) where
  -- a lease or a ticket was spent
  pub spent_one : (site t : ℕ) → IsCallAt site old new → Spends (host_at old site) (host_at new site) t → ChangesOne old new (site, t)
  spent_one site t call spends = changes_one old new site t None None call spends.leases spends.tickets

  pub spent_due : (places next : List (Place (Acquired S))) (slot : Slot) (x : Acquired S) → AreDue old places → Takes places next slot x → ChangesOne old new (holder_of x) → AreDue new next
  spent_due places next slot x due takes change =
      due_after places next slot.index (vacated slot.generation) takes.changes old new (holder_of x) due change
      (alone_in old places next slot.index (vacated slot.generation) takes.changes x due (slot_held places slot x takes.its)) tt

  -- a lease was got, or a ticket
  pub got_lease : (site t c : ℕ) → IsCallAt site old new → GetsLease (host_at old site) (host_at new site) t c → ChangesOne old new (site, t)
  got_lease site t c call gets = changes_one old new site t (Some c) None call gets.leases gets.tickets

  leased : (site t c : ℕ) → GetsLease (host_at old site) (host_at new site) t c → lease_number (host_at new site) t ≡ Some c
  leased site t c gets = gets.leases t ∙ own_passes t (Some c) (lease_number (host_at old site) t)

  ticketed : (site : ℕ) (want : Want) → GetsTicket (host_at old site) (host_at new site) want → ticket_want (host_at new site) want.transfer ≡ Some want
  ticketed site want gets = gets.tickets want.transfer ∙ own_passes want.transfer (Some want) (ticket_want (host_at old site) want.transfer)

  -- where nothing of its transfer was there, an acquire has that change
  same_leases : (want : Want) (site : ℕ) → ((q : ℕ) → lease_number (host_at new site) q ≡ lease_number (host_at old site) q) → lease_number (host_at old site) want.transfer ≡ None
      → (q : ℕ) → lease_number (host_at new site) q ≡ cond (want.transfer == q) None (lease_number (host_at old site) q)
  same_leases want site same none q = elim (eqb_tells want.transfer q) [
    | inl is ↦ same q ∙ subst (λ (t : ℕ). lease_number (host_at old site) t ≡ None) is.1 none ∙ sym (ap (λ (test : Bool). cond test None (lease_number (host_at old site) q)) is.0)
    | inr other ↦ same q ∙ sym (ap (λ (test : Bool). cond test None (lease_number (host_at old site) q)) other.0)
  ]

  pub acquired_change : (site : ℕ) (want : Want) (now : ℕ) (x : Acquired S) → Gives (home_of new) site want x → GivesBy (DidToPool old new) now x → HasNothing (host_at old site) want.transfer
      → ChangesOne old new (holder_of x) × (holder_of x ≡ (site, want.transfer)) × IsDue new x
  acquired_change site want now (Lease lease) gives done nothing = (
    got_lease lease.site lease.start.want.transfer lease.start.number done.at_site done.leased.gets,
    ap (λ (s : ℕ). (s, lease.start.want.transfer)) gives.site_is ∙ ap (λ (w : Want). (site, w.transfer)) gives.want_is,
    (made_here new lease gives.here, leased lease.site lease.start.want.transfer lease.start.number done.leased.gets),
  )
  acquired_change site want now (Wait ticket) gives done nothing =
      let its = ticket.wait.want in
      let who : (ticket.site, its.transfer) ≡ (site, want.transfer) = ap (λ (s : ℕ). (s, its.transfer)) gives.site_is ∙ ap (λ (w : Want). (site, w.transfer)) gives.want_is in
      let none : lease_number (host_at old ticket.site) its.transfer ≡ None = subst (λ (p : ℕ × ℕ). lease_number (host_at old p.0) p.1 ≡ None) (sym who) nothing.0 in (
        changes_one old new ticket.site its.transfer None (Some its) done.at_site (same_leases its ticket.site done.waits.gets.leases none) done.waits.gets.tickets,
        who,
        (ticket_here new ticket gives.here, ticketed ticket.site its done.waits.gets),
      )

  pub acquired_due : (places next : List (Place (Acquired S))) (slot : Slot) (site : ℕ) (want : Want) (now : ℕ) (x : Acquired S) → AreDue old places → Puts places next slot x
      → Gives (home_of new) site want x → GivesBy (DidToPool old new) now x → HasNothing (host_at old site) want.transfer → AreDue new next
  acquired_due places next slot site want now x due puts gives done nothing =
      let change = acquired_change site want now x gives done nothing in
      due_after places next slot.index (filled slot.generation x) puts.changes old new (holder_of x) due change.0
      (λ index y other is same. nothing_due old site want.transfer nothing y
      (subst (λ (held : Option (Acquired S)). IfSome held (IsDue old)) is (due.each index)) (same ∙ change.1))
      (change.2, refl)

  -- each is due where all leases and tickets stay
  kept_one : KeepsHosts old new → StaysPool old new → (x : Acquired S) → IsDue old x → IsDue new x
  kept_one keeps stays (Lease lease) due =
      let made = due.0 in
      let host = keeps lease.site made.there in (
        record { there = subst (λ (n : ℕ). lease.site < n) (sym stays.count) made.there; tables = made.tables ∙ sym host.stays.same.tables },
        host.keeps.leases lease.start.want.transfer ∙ due.1,
      )
  kept_one keeps stays (Wait ticket) due =
      let made = due.0 in
      let host = keeps ticket.site made.there in (
        record { there = subst (λ (n : ℕ). ticket.site < n) (sym stays.count) made.there; tables = made.tables ∙ sym host.stays.same.tables },
        host.keeps.tickets ticket.wait.want.transfer ∙ due.1,
      )

  kept_if : KeepsHosts old new → StaysPool old new → (held : Option (Acquired S)) → IfSome held (IsDue old) → IfSome held (IsDue new)
  kept_if keeps stays None due = tt
  kept_if keeps stays (Some x) due = kept_one keeps stays x due

  pub kept_due : (places : List (Place (Acquired S))) → KeepsHosts old new → StaysPool old new → AreDue old places → AreDue new places
  kept_due places keeps stays due = record {
    each = λ index. kept_if keeps stays (held_at places index) (due.each index);
    apart = due.apart;
  }

-- a call that changes nothing
pub changes_nothing : {S : Type 0} (pool : PoolShown S) (one : ℕ × ℕ) → ChangesOne pool pool one
changes_nothing pool one = record { count = refl; tables = λ host there. refl; leases = λ host t there other. refl; tickets = λ host t there other. refl }

-- a place that changes twice
changed_again : {T : Type 0} (old mid next : List (Place T)) (one : ℕ) (first second : Place T) → ChangesPlace old mid one first → ChangesPlace mid next one second → ChangesPlace old next one second
changed_again old mid next one first second before after index = by_test (index == one) (before index) (after index)
  where
    by_test : (test : Bool) → place_at mid index ≡ cond test first (place_at old index) → place_at next index ≡ cond test second (place_at mid index) → place_at next index ≡ cond test second (place_at old index)
    by_test true b a = a
    by_test false b a = a ∙ b

-- what a slot held was lifted out of it, and what is put in its stead is of the same transfer
pub replaced_due : {S : Type 0} (old new : PoolShown S) (places mid next : List (Place (Acquired S))) (slot : Slot) (x y : Acquired S) → AreDue old places → Takes places mid slot x
    → ChangesPlace mid next slot.index (filled slot.generation y) → ChangesOne old new (holder_of x) → IsDue new y → holder_of y ≡ holder_of x → AreDue new next
replaced_due old new places mid next slot x y due takes puts change its same =
    let changes = changed_again places mid next slot.index (vacated slot.generation) (filled slot.generation y) takes.changes puts in
    due_after places next slot.index (filled slot.generation y) changes old new (holder_of x) due change
    (alone_in old places next slot.index (filled slot.generation y) changes x due (slot_held places slot x takes.its)) (its, same)

-- what a slot held was due
pub slot_due : {S : Type 0} (pool : PoolShown S) (places : List (Place (Acquired S))) (slot : Slot) (x : Acquired S) → AreDue pool places → value_in places slot ≡ Some x → IsDue pool x
slot_due {S} pool places slot x due is = subst (λ (held : Option (Acquired S)). IfSome held (IsDue pool)) (slot_held places slot x is) (due.each slot.index)

-- what a slot held, and was put back, is held there as before
pub put_back_same : {T : Type 0} (old mid next : List (Place T)) (slot : Slot) (x : T) → Takes old mid slot x → ChangesPlace mid next slot.index (filled slot.generation x) → SamePlaces old next
put_back_same old mid next slot x takes puts index = elim (eqb_tells index slot.index) [
  | inl is ↦ changed_again old mid next slot.index (vacated slot.generation) (filled slot.generation x) takes.changes puts index ∙ ap (λ (test : Bool). cond test (filled slot.generation x) (place_at old index)) is.0 ∙ sym (subst (λ (i : ℕ). place_at old i ≡ filled slot.generation x) (sym is.1) (value_place (place_at old slot.index) slot.generation x takes.its))
  | inr other ↦ changed_again old mid next slot.index (vacated slot.generation) (filled slot.generation x) takes.changes puts index ∙ ap (λ (test : Bool). cond test (filled slot.generation x) (place_at old index)) other.0
]
