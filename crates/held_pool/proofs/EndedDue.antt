-- What is left of the slots is due, once what the last place held was ended.
use Rattle.std.proofs.Common.{◌≡◌, ℕ, List, [], ◌∷◌, ◌++◌, length, Option, Some, None, refl, sym, ap, subst, ◌∙◌, inl, inr, arith}
use Rattle.std.specs.Prelude.{IfSome}
use Rattle.std.proofs.lemmas.Grind.{common_steps}
use Rattle.std.proofs.lemmas.List.{append_assoc, append-nil}
use Rattle.std.proofs.lemmas.Bool.Decides.{eqb_tells}
use Rattle.bundle.specs.declared.answers.Acquired.{Acquired}
use Rattle.bundle.specs.declared.answers.Acquired.TheVariants.{Lease, Wait}
use Rattle.cache_trait.specs.CacheCalls.{AllDone}
use Rattle.cache.specs.Pools.{PoolShown}
use Rattle.cache.specs.PoolCalls.{DidToPool}
use Rattle.held_pool.specs.declared.slot_place.Place.{Place}
use Rattle.held_pool.specs.Slots.{vacated, ChangesPlace}
use Rattle.held_pool.specs.Due.{holder_of, IsDue, held_at, AreDue}
use Rattle.held_pool.specs.Calls.{ending_of, EndsHeld, endings_in}
use Rattle.held_pool.proofs.DueAfter.{ChangesOne, due_after, held_there, held_else}
use Rattle.held_pool.proofs.DueCalls.{alone_in, spent_one}

-- without its last place a list is as if that were never filled
pub popped : {T : Type 0} (left : List (Place T)) (place : Place T) → ChangesPlace (left ++ place ∷ []) left (length left) (vacated 0)
popped left place index = elim (eqb_tells index (length left)) [
  | inl same ↦ grind (arith, common_steps)
  | inr other ↦ grind (arith, common_steps)
]

-- and one that held nothing can go
vacated_due : {S : Type 0} (pool : PoolShown S) (places next : List (Place (Acquired S))) (one generation : ℕ) → ChangesPlace places next one (vacated generation) → AreDue pool places → AreDue pool next
vacated_due {S} pool places next one generation changes due = record {
  each = λ index. by_held index (held_at next index) refl;
  apart = λ i j x y is js same. due.apart i j x y (before i x is) (before j y js) same;
}
  where
    before : (index : ℕ) (x : Acquired S) → held_at next index ≡ Some x → held_at places index ≡ Some x
    before index x is = elim (eqb_tells index one) [
      | inl same ↦
          let none : None ≡ Some x = sym (held_there places next one (vacated generation) changes) ∙ subst (λ (i : ℕ). held_at next i ≡ Some x) same.1 is in
          absurd cc
      | inr other ↦ sym (held_else places next one (vacated generation) changes index other.1) ∙ is
    ]

    by_held : (index : ℕ) (held : Option (Acquired S)) → held_at next index ≡ held → IfSome held (IsDue pool)
    by_held index None is = tt
    by_held index (Some x) is = subst (λ (h : Option (Acquired S)). IfSome h (IsDue pool)) (before index x is) (due.each index)

-- what the last place held was ended
ended_change : (old new : PoolShown ℕ) (now : ℕ) (x : Acquired ℕ) → DidToPool old new (ending_of now x) → ChangesOne old new (holder_of x)
ended_change old new now (Lease lease) did = spent_one old new lease.site lease.start.want.transfer did.at_site did.spends
ended_change old new now (Wait ticket) did = spent_one old new ticket.site ticket.wait.want.transfer did.at_site did.spends

last_held : {S : Type 0} (left : List (Place (Acquired S))) (place : Place (Acquired S)) → held_at (left ++ place ∷ []) (length left) ≡ place.held
last_held [] place = refl
last_held (first ∷ left) place = last_held left place

module _ (old new : PoolShown ℕ) (now : ℕ) (left : List (Place (Acquired ℕ))) (place : Place (Acquired ℕ)) (due : AreDue old (left ++ place ∷ [])) where
  pub last_due : (held : Option (Acquired ℕ)) → place.held ≡ held → IfSome held (IsDue old)
  last_due held is = subst (λ (h : Option (Acquired ℕ)). IfSome h (IsDue old)) (last_held left place ∙ is) (due.each (length left))

  pub left_due : (held : Option (Acquired ℕ)) → place.held ≡ held → EndsHeld old new now held → AreDue new left
  left_due None is same = subst (λ (pool : PoolShown ℕ). AreDue pool left) (sym same) (vacated_due old (left ++ place ∷ []) left (length left) 0 (popped left place) due)
  left_due (Some x) is did =
      due_after (left ++ place ∷ []) left (length left) (vacated 0) (popped left place) old new (holder_of x) due (ended_change old new now x did)
      (alone_in old (left ++ place ∷ []) left (length left) (vacated 0) (popped left place) x due (last_held left place ∙ is)) tt

-- of all these places those are left, and what the others held was ended
abbrev pub EndsRest : PoolShown ℕ → PoolShown ℕ → ℕ → List (Place (Acquired ℕ)) → List (Place (Acquired ℕ)) → Type 0
EndsRest before after now all left = (ended : List (Place (Acquired ℕ))) × (all ≡ left ++ ended) × AllDone DidToPool before after (endings_in now ended)

pub ends_none : (pool : PoolShown ℕ) (now : ℕ) (all : List (Place (Acquired ℕ))) → EndsRest pool pool now all all
ends_none pool now all = ([], sym (append-nil all), refl)

module _ (before middle after : PoolShown ℕ) (now : ℕ) (all left next : List (Place (Acquired ℕ))) (place : Place (Acquired ℕ)) (rest : EndsRest before middle now all left) (taken : left ≡ next ++ place ∷ []) where
  all_is : all ≡ next ++ (place ∷ rest.0)
  all_is = rest.1 ∙ ap (λ (l : List (Place (Acquired ℕ))). l ++ rest.0) taken ∙ append_assoc next (place ∷ []) rest.0

  first_ending : (held : Option (Acquired ℕ)) → place.held ≡ held → EndsHeld middle after now held → AllDone DidToPool before after (endings_in now (place ∷ rest.0))
  first_ending None is same = rw is (subst (λ (pool : PoolShown ℕ). AllDone DidToPool before pool (endings_in now rest.0)) (sym same) rest.2)
  first_ending (Some x) is did = rw is ((middle, rest.2, did))

  pub ends_more : (held : Option (Acquired ℕ)) → place.held ≡ held → EndsHeld middle after now held → EndsRest before after now all next
  ends_more held is ends = (place ∷ rest.0, all_is, first_ending held is ends)

-- none is left
pub ends_all : (before after : PoolShown ℕ) (now : ℕ) (all left : List (Place (Acquired ℕ))) → EndsRest before after now all left → left ≡ [] → AllDone DidToPool before after (endings_in now all)
ends_all before after now all left rest none = subst (λ (l : List (Place (Acquired ℕ))). AllDone DidToPool before after (endings_in now l)) (sym (rest.1 ∙ ap (λ (l : List (Place (Acquired ℕ))). l ++ rest.0) none)) rest.2
