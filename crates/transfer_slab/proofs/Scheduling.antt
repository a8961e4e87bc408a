-- A place goes from list to list, and each place stays in its own.
use Rattle.std.proofs.Common.{◌≡◌, ◌≢◌, refl, sym, subst, ap, ◌∙◌, inl, inr, ℕ, zero, suc, ◌<◌, ◌==◌, eq-eqb, Bool, true, false, List, [], ◌∷◌, ◌++◌, length, set, slice_get, Option, Some, None, IfSome, IsSomeAnd, sum_by, arith}
use Rattle.std.specs.Bool.{OnFalse}
use Rattle.std.proofs.lemmas.Bool.{cases_eq, false≢true, eqb-true}
use Rattle.std.proofs.lemmas.List.Sums.{sum_by-cons}
use Rattle.std.proofs.lemmas.Option.{slice_get_past}
use Rattle.futures.specs.LinkedLists.{LinkedLists, list_of, key_limit, IsEmpty, SameLists, Moves}
use Rattle.futures.proofs.LinkedListsLemmas.{owned_within}
use Rattle.exchange.specs.declared.state.State.{State}
use Rattle.exchange.specs.Transfers.{TransferShown}
use Rattle.exchange.specs.Stepping.{has_lease}
use Rattle.transfer_slab.specs.Slabs.{one_if_some}
use Rattle.transfer_slab.specs.Scheduling.{free_list, parked_list, awaits_wire, awaits_grant, suits, IsDueList, IsListFor, StandsIn, IsScheduled, Becomes, IsWoken, Wakes, HasNoneDue, IsIdle, AreIdle}
use Rattle.exchange.specs.Waiting.{is_waiting}

module _ {X : Type 0} where
  -- what stands at a place where one place was set
  get_set_same : (xs : List X) (i : ℕ) (x y : X) → slice_get xs i ≡ Some x → slice_get (set xs i y) i ≡ Some y
  get_set_same [] i x y is = cc
  get_set_same (z ∷ xs) zero x y is = refl
  get_set_same (z ∷ xs) (suc i) x y is = get_set_same xs i x y is

  get_set_other : (xs : List X) (i j : ℕ) (y : X) → j ≢ i → slice_get (set xs i y) j ≡ slice_get xs j
  get_set_other [] i j y differs = refl
  get_set_other (z ∷ xs) zero zero y differs = absurd (differs refl)
  get_set_other (z ∷ xs) zero (suc j) y differs = refl
  get_set_other (z ∷ xs) (suc i) zero y differs = refl
  get_set_other (z ∷ xs) (suc i) (suc j) y differs = get_set_other xs i j y (λ same. differs (ap suc same))

  -- and where there is one place more
  get_push_last : (xs : List X) (y : X) → slice_get (xs ++ (y ∷ [])) (length xs) ≡ Some y
  get_push_last [] y = refl
  get_push_last (z ∷ xs) y = get_push_last xs y

  get_push_other : (xs : List X) (y : X) (j : ℕ) → j ≢ length xs → slice_get (xs ++ (y ∷ [])) j ≡ slice_get xs j
  get_push_other [] y zero differs = absurd (differs refl)
  get_push_other [] y (suc j) differs = refl
  get_push_other (z ∷ xs) y zero differs = refl
  get_push_other (z ∷ xs) y (suc j) differs = get_push_other xs y j (λ same. differs (ap suc same))

free_at : (W : Type 0) (list : Option ℕ) → StandsIn {W = W} (Some None) list → list ≡ Some free_list
free_at W None stands = absurd (false≢true stands)
free_at W (Some list) stands = ap Some (eqb-true list free_list stands)

module _ {W : Type 0} where
  stands_as : (was slot : Option (Option (TransferShown W))) (list now : Option ℕ) → slot ≡ was → now ≡ list → StandsIn was list → StandsIn slot now
  stands_as was slot list now same moved stands = subst (λ (l : Option ℕ). StandsIn slot l) (sym moved) (subst (λ (s : Option (Option (TransferShown W))). StandsIn s list) (sym same) stands)

  -- no place is there
  pub law_of_none : (lists : LinkedLists) → ((place : ℕ) → list_of lists place ≡ None) → IsScheduled {W = W} [] lists
  law_of_none lists none = record { stands = λ place. stands_as None (slice_get [] place) None (list_of lists place) refl (none place) refl }

  module _ (slots : List (Option (TransferShown W))) (old new : LinkedLists) (law : IsScheduled slots old) where
    -- each place is in the list that it was in
    pub law_of_same : SameLists old new → IsScheduled slots new
    law_of_same same = record { stands = λ place. stands_as (slice_get slots place) (slice_get slots place) (list_of old place) (list_of new place) refl (same.keys place) (law.stands place) }

    -- something else stands at a place, in its list
    pub law_of_set : (place : ℕ) (was now : Option (TransferShown W)) (list : ℕ) → slice_get slots place ≡ Some was → StandsIn (Some now) (Some list) → Moves old new place (Some list) → IsScheduled (set slots place now) new
    law_of_set place was now list is fits moves = record {
      stands = λ other. elim (cases_eq other place) [
        | inl here ↦ subst (λ (k : ℕ). StandsIn (slice_get (set slots place now) k) (list_of new k)) (sym here) (stands_as (Some now) (slice_get (set slots place now) place) (Some list) (list_of new place) (get_set_same slots place was now is) moves.moved fits)
        | inr differs ↦ stands_as (slice_get slots other) (slice_get (set slots place now) other) (list_of old other) (list_of new other) (get_set_other slots place other now differs) (moves.others other differs) (law.stands other)
      ];
    }

    -- something stands behind all others, in its list
    pub law_of_push : (place : ℕ) (now : Option (TransferShown W)) (list : ℕ) → place ≡ length slots → StandsIn (Some now) (Some list) → Moves old new place (Some list) → IsScheduled (slots ++ (now ∷ [])) new
    law_of_push place now list last fits moves = record {
      stands = λ other. elim (cases_eq other place) [
        | inl here ↦ subst (λ (k : ℕ). StandsIn (slice_get (slots ++ (now ∷ [])) k) (list_of new k)) (sym here) (stands_as (Some now) (slice_get (slots ++ (now ∷ [])) place) (Some list) (list_of new place) (ap (slice_get (slots ++ (now ∷ []))) last ∙ get_push_last slots now) moves.moved fits)
        | inr differs ↦ stands_as (slice_get slots other) (slice_get (slots ++ (now ∷ [])) other) (list_of old other) (list_of new other) (get_push_other slots now other (λ same. differs (same ∙ sym last))) (moves.others other differs) (law.stands other)
      ];
    }

  -- the place behind all others is taken away
  pub law_of_pop : (slots left : List (Option (TransferShown W))) (old new : LinkedLists) (place : ℕ) (last : Option (TransferShown W)) → IsScheduled slots old → slots ≡ left ++ (last ∷ []) → place ≡ length left → Moves old new place None → IsScheduled left new
  law_of_pop slots left old new place last law pops is moves = record {
    stands = λ other. elim (cases_eq other place) [
      | inl here ↦ subst (λ (k : ℕ). StandsIn (slice_get left k) (list_of new k)) (sym here) (stands_as None (slice_get left place) None (list_of new place) (slice_get_past left place (omega (arith, is))) moves.moved refl)
      | inr differs ↦ stands_as (slice_get slots other) (slice_get left other) (list_of old other) (list_of new other) (sym (ap (λ (l : List (Option (TransferShown W))). slice_get l other) pops ∙ get_push_other left last other (λ same. differs (same ∙ sym is)))) (moves.others other differs) (law.stands other)
    ];
  }

  -- places that were parked are due
  pub due_suits : (t : TransferShown W) (list : ℕ) → IsDueList list → suits t list ≡ true
  due_suits t list (inl is) = subst (λ (l : ℕ). suits t l ≡ true) (sym is) refl
  due_suits t list (inr is) = subst (λ (l : ℕ). suits t l ≡ true) (sym is) refl

  woken_at : (slot : Option (Option (TransferShown W))) (was now : Option ℕ) → IsWoken was now → StandsIn slot was → StandsIn slot now
  woken_at slot was now (inl same) stands = subst (λ (l : Option ℕ). StandsIn slot l) (sym same) stands
  woken_at slot was None (inr woken) stands = absurd woken.1
  woken_at None was (Some list) (inr woken) stands = let was_none : StandsIn {W = W} None (Some parked_list) = subst (λ (l : Option ℕ). StandsIn {W = W} None l) woken.0 stands in absurd (false≢true was_none)
  woken_at (Some None) was (Some list) (inr woken) stands = let was_free : StandsIn {W = W} (Some None) (Some parked_list) = subst (λ (l : Option ℕ). StandsIn {W = W} (Some None) l) woken.0 stands in absurd (false≢true was_free)
  woken_at (Some (Some t)) was (Some list) (inr woken) stands = due_suits t list woken.1

  pub law_of_wakes : (slots : List (Option (TransferShown W))) (old new : LinkedLists) → IsScheduled slots old → Wakes old new → IsScheduled slots new
  law_of_wakes slots old new law wakes = record { stands = λ place. woken_at (slice_get slots place) (list_of old place) (list_of new place) (wakes place) (law.stands place) }

  -- no transfer stands at a free place
  vacant_at : (slot : Option (Option (TransferShown W))) → StandsIn slot (Some free_list) → slot ≡ Some None
  vacant_at None stands = absurd (false≢true stands)
  vacant_at (Some None) stands = refl
  vacant_at (Some (Some t)) stands = absurd (false≢true stands)

  pub free_is_vacant : (slots : List (Option (TransferShown W))) (lists : LinkedLists) (place : ℕ) → IsScheduled slots lists → list_of lists place ≡ Some free_list → slice_get slots place ≡ Some None
  free_is_vacant slots lists place law free = vacant_at (slice_get slots place) (subst (λ (l : Option ℕ). StandsIn (slice_get slots place) l) free (law.stands place))

  -- if no place is free, a transfer stands at each
  all_taken : (slots : List (Option (TransferShown W))) → ((place : ℕ) → slice_get slots place ≢ Some None) → sum_by one_if_some slots ≡ length slots
  all_taken [] none = refl
  all_taken (Some t ∷ rest) none = let more = all_taken rest (λ place. none (suc place)) in let sum = sum_by-cons (one_if_some {W = W}) (Some t) rest in omega (arith, more, sum)
  all_taken (None ∷ rest) none = absurd (none zero refl)

  pub taken_if_none_free : (slots : List (Option (TransferShown W))) (lists : LinkedLists) → IsScheduled slots lists → IsEmpty lists free_list → sum_by one_if_some slots ≡ length slots
  taken_if_none_free slots lists law empty = all_taken slots (λ place is. empty place (free_at W (list_of lists place) (subst (λ (s : Option (Option (TransferShown W))). StandsIn s (list_of lists place)) is (law.stands place))))

  -- if no place is due, each transfer waits
  wire_meant : (yielded : Bool) (state : Option (State W)) → awaits_wire yielded state ≡ true → (yielded ≡ false) × IsSomeAnd state (λ s. has_lease s ≡ true)
  wire_meant true state is = absurd (false≢true is)
  wire_meant false None is = absurd (false≢true is)
  wire_meant false (Some state) is = (refl, is)

  grant_meant : (own : Bool) (state : Option (State W)) → awaits_grant own state ≡ true → IsSomeAnd state (λ s. is_waiting s ≡ true)
  grant_meant false state is = absurd (false≢true is)
  grant_meant true None is = absurd (false≢true is)
  grant_meant true (Some state) is = is

  idle_by : (t : TransferShown W) (list : ℕ) → (list ≡ 2 → ⊥) → (list ≡ 3 → ⊥) → suits t list ≡ true → IsIdle t
  idle_by t zero even odd is = absurd (false≢true is)
  idle_by t (suc zero) even odd is = inl (wire_meant t.has_yielded t.state is)
  idle_by t (suc (suc zero)) even odd is = absurd (even refl)
  idle_by t (suc (suc (suc zero))) even odd is = absurd (odd refl)
  idle_by t (suc (suc (suc (suc site)))) even odd is = inr (grant_meant (site == t.parts.site) t.state is)

  idle_at : (slot : Option (Option (TransferShown W))) (list : Option ℕ) → list ≢ Some 2 → list ≢ Some 3 → StandsIn slot list → IfSome slot (λ its. IfSome its (IsIdle {W = W}))
  idle_at None list even odd stands = tt
  idle_at (Some None) list even odd stands = tt
  idle_at (Some (Some t)) None even odd stands = absurd (false≢true stands)
  idle_at (Some (Some t)) (Some list) even odd stands = idle_by t list (λ is. even (ap Some is)) (λ is. odd (ap Some is)) stands

  idle_if_none_due : (slots : List (Option (TransferShown W))) (lists : LinkedLists) → IsScheduled slots lists → HasNoneDue lists → AreIdle slots
  idle_if_none_due slots lists law none place = idle_at (slice_get slots place) (list_of lists place) (none.even place) (none.odd place) (law.stands place)

  pub idle_unless_due : (slots : List (Option (TransferShown W))) (lists : LinkedLists) → IsScheduled slots lists → (due : Bool) → OnFalse due (HasNoneDue lists) → OnFalse due (AreIdle slots)
  idle_unless_due slots lists law true none = tt
  idle_unless_due slots lists law false none = idle_if_none_due slots lists law none

  -- a place that is there has room in the lists
  in_list : (slot : Option (TransferShown W)) (list : Option ℕ) → StandsIn (Some slot) list → (l : ℕ) × (list ≡ Some l)
  in_list slot None stands = absurd (false≢true stands)
  in_list slot (Some l) stands = (l, refl)

  pub has_room : (slots : List (Option (TransferShown W))) (lists : LinkedLists) (place : ℕ) (slot : Option (TransferShown W)) → IsScheduled slots lists → slice_get slots place ≡ Some slot → place < key_limit lists
  has_room slots lists place slot law is =
      let its = in_list slot (list_of lists place) (subst (λ (s : Option (Option (TransferShown W))). StandsIn s (list_of lists place)) is (law.stands place)) in
      owned_within lists.owners place its.0 its.1

-- a list that is for a transfer suits it
module _ {W : Type 0} where
  wire_told : (yielded : Bool) (state : Option (State W)) → yielded ≡ false → IsSomeAnd state (λ s. has_lease s ≡ true) → awaits_wire yielded state ≡ true
  wire_told yielded None goes has = absurd has
  wire_told yielded (Some state) goes has = subst (λ (b : Bool). awaits_wire b (Some state) ≡ true) (sym goes) has

  grant_told : (own : Bool) (state : Option (State W)) → own ≡ true → IsSomeAnd state (λ s. is_waiting s ≡ true) → awaits_grant own state ≡ true
  grant_told own None its has = absurd has
  grant_told own (Some state) its has = subst (λ (b : Bool). awaits_grant b (Some state) ≡ true) (sym its) has

  pub list_suits : (t : TransferShown W) (list : ℕ) → IsListFor t list → suits t list ≡ true
  list_suits t list (inl due) = due_suits t list due
  list_suits t list (inr (inl parks)) = subst (λ (l : ℕ). suits t l ≡ true) (sym parks.0) (wire_told t.has_yielded t.state parks.1.0 parks.1.1)
  list_suits t list (inr (inr waits)) =
      let is = waits.0 in
      let at : list ≡ suc (suc (suc (suc t.parts.site))) = omega (arith, is) in
      subst (λ (l : ℕ). suits t l ≡ true) (sym at) (grant_told (t.parts.site == t.parts.site) t.state (eq-eqb t.parts.site t.parts.site refl) waits.1)

-- none becomes due
pub wakes_none : (lists : LinkedLists) → Wakes lists lists
wakes_none lists place = inl refl

-- one more does
due_from : (was middle now : Option ℕ) → IsWoken was middle → middle ≡ Some parked_list → IsSomeAnd now IsDueList → IsWoken was now
due_from was middle now (inl same) is due = inr (sym same ∙ is, due)
due_from was middle now (inr woken) is due = inr (woken.0, due)

pub wakes_more : (old middle new : LinkedLists) (place : ℕ) → Wakes old middle → list_of middle place ≡ Some parked_list → Becomes middle new place IsDueList → Wakes old new
wakes_more old middle new place wakes is due other =
    elim (cases_eq other place) [
      | inl here ↦ subst (λ (k : ℕ). IsWoken (list_of old k) (list_of new k)) (sym here) (due_from (list_of old place) (list_of middle place) (list_of new place) (wakes place) is (subst (λ (l : Option ℕ). IsSomeAnd l IsDueList) (sym due.moves.moved) due.fits))
      | inr differs ↦ subst (λ (l : Option ℕ). IsWoken (list_of old other) l) (sym (due.moves.others other differs)) (wakes other)
    ]
