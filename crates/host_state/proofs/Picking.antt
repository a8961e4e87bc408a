-- What a closing picks of the idle connections is what it picks of their numbers.
use Rattle.std.proofs.Common.{◌≡◌, ℕ, zero, suc, ◌<◌, Bool, true, false, List, [], ◌∷◌, length, filter, get_or, Option, Some, None, refl, sym, ap, ◌∙◌, arith}
use Rattle.std.specs.List.{remove}
use Rattle.std.specs.Option.{IfSome, IfNone}
use Rattle.conn_log.specs.declared.entry.Want.{Want}
use Rattle.host_state.specs.declared.closing.Closing.TheVariants.{TooOld, Pruned}
use Rattle.host_state.specs.declared.idle.Idle.{Idle}
use Rattle.host_state.specs.Idle.{item_too_old, item_older, FirstTooOld, NoneTooOld, FirstOlder, NoneOlder, picked_items, PicksFirst, numbers}

-- what follows where an option is there, or is not
pub where_some : {A : Type 0} {P Q : A → Type 0} (x : Option A) → ((y : A) → P y → Q y) → IfSome x P → IfSome x Q
where_some None f there = tt
where_some (Some y) f there = f y there

pub where_none : {A : Type 0} {P Q : Type 0} (x : Option A) → (P → Q) → IfNone x P → IfNone x Q
where_none None f there = f there
where_none (Some y) f there = tt

module _ {S : Type 0} where
  -- where none passes, none is left
  pub none_pass : (test : Idle S → Bool) (idle : List (Idle S)) → ((k : ℕ) (d : Idle S) → k < length idle → test (get_or idle k d) ≡ false) → filter test idle ≡ []
  none_pass test [] none = refl
  none_pass test (x ∷ idle) none =
      let here : test x ≡ false = none 0 x (omega arith) in
      rw here (none_pass test idle (λ k d below. none (suc k) d (omega arith)))

  -- the first that passes comes before those that pass without it
  pub first_passes : (test : Idle S → Bool) (idle : List (Idle S)) (place : ℕ) (x : Idle S) → place < length idle → x ≡ get_or idle place x → test x ≡ true → ((k : ℕ) (d : Idle S) → k < place → test (get_or idle k d) ≡ false) → filter test idle ≡ x ∷ filter test (remove idle place)
  first_passes test [] place x within is passes none = absurd (omega (arith, within))
  first_passes test (y ∷ idle) zero x within is passes none =
      let here : test y ≡ true = ap test (sym is) ∙ passes in
      rw here (ap (λ (z : Idle S). z ∷ filter test idle) (sym is))
  first_passes test (y ∷ idle) (suc place) x within is passes none =
      let here : test y ≡ false = none 0 y (omega arith) in
      rw here (first_passes test idle place x (omega (arith, within)) is passes (λ k d below. none (suc k) d (omega arith)))

  -- numbers that pass are the numbers of those that pass
  pub filter_numbers : (of_number : ℕ → Bool) (test : Idle S → Bool) (idle : List (Idle S)) → ((k : ℕ) (d : Idle S) → k < length idle → (let x = get_or idle k d in of_number x.number ≡ test x)) → filter of_number (numbers idle) ≡ numbers (filter test idle)
  filter_numbers of_number test [] agree = refl
  filter_numbers of_number test (x ∷ idle) agree = by_test (test x) refl (filter_numbers of_number test idle (λ k d below. agree (suc k) d (omega arith)))
    where
      here : of_number x.number ≡ test x
      here = agree 0 x (omega arith)

      by_test : (b : Bool) → test x ≡ b → filter of_number (numbers idle) ≡ numbers (filter test idle) → filter of_number (numbers (x ∷ idle)) ≡ numbers (filter test (x ∷ idle))
      by_test true is rest = (let too : of_number x.number ≡ true = here ∙ is in rw (is, too) (ap (λ ns. x.number ∷ ns) rest))
      by_test false is rest = (let too : of_number x.number ≡ false = here ∙ is in rw (is, too) rest)

  pub picks_too_old : (want : Want) (moment open_len : ℕ) (idle : List (Idle S)) (place : ℕ) → FirstTooOld want moment idle place → PicksFirst (TooOld want) moment open_len idle place
  picks_too_old want moment open_len idle place first = record {
    in_range = first.in_range;
    picks = λ x is. first_passes (item_too_old want moment) idle place x first.in_range is (ap (item_too_old want moment) is ∙ first.here x) first.none_before;
  }

  pub picks_older : (max_age max_life moment open_len : ℕ) (idle : List (Idle S)) (place : ℕ) → FirstOlder max_age max_life moment idle place → PicksFirst (Pruned max_age max_life) moment open_len idle place
  picks_older max_age max_life moment open_len idle place first = record {
    in_range = first.in_range;
    picks = λ x is. first_passes (item_older max_age max_life moment) idle place x first.in_range is (ap (item_older max_age max_life moment) is ∙ first.here x) first.none_before;
  }

  pub picks_no_too_old : (want : Want) (moment open_len : ℕ) (idle : List (Idle S)) → NoneTooOld want moment idle → picked_items (TooOld want) moment open_len idle ≡ []
  picks_no_too_old want moment open_len idle none = none_pass (item_too_old want moment) idle none

  pub picks_no_older : (max_age max_life moment open_len : ℕ) (idle : List (Idle S)) → NoneOlder max_age max_life moment idle → picked_items (Pruned max_age max_life) moment open_len idle ≡ []
  picks_no_older max_age max_life moment open_len idle none = none_pass (item_older max_age max_life moment) idle none
