-- Which number of a list goes first.
use Rattle.std.proofs.Common.{◌≡◌, ℕ, Bool, true, false, ◌&&◌, List, [], ◌∷◌, filter, Option, Some, None, refl, sym, ap, subst, inl, inr, ◌∙◌, arith}
use Rattle.std.specs.Prelude.{◌==◌, if◌then◌else◌}
use Rattle.std.specs.Option.{option_map_or}
use mathlib.Core.Bool.{false≢true}
use Rattle.std.proofs.lemmas.Bool.Decides.{nat_tests, eqb_tells}
use Rattle.conn_log.specs.declared.entry.Want.{Want}
use Rattle.conn_log.specs.declared.entry.Entry.{Entry}
use Rattle.conn_log.specs.Connections.{is_among, idle_connections, is_idle}
use Rattle.conn_log.specs.Fit.{first_by, is_idle_longer, suits, newest_fit, is_too_old_in_lane, oldest_too_old, oldest}
use Rattle.conn_log.proofs.Numbers.{is_among-filter}

module _ (goes_before : ℕ → ℕ → Bool) where
  -- the first one is one of them
  pub first_among : (xs : List ℕ) (c : ℕ) → first_by goes_before xs ≡ Some c → is_among c xs ≡ true
  first_among [] c is = absurd (cc)
  first_among (x ∷ xs) c is = within (first_by goes_before xs) refl is (λ d. first_among xs d)
    where
      within : (first : Option ℕ) → first_by goes_before xs ≡ first → Some (option_map_or (λ d. if goes_before d x then d else x) first x) ≡ Some c → ((d : ℕ) → first_by goes_before xs ≡ Some d → is_among d xs ≡ true) → is_among c (x ∷ xs) ≡ true
      within None is_first same rest = grind (arith, nat_tests)
      within (Some d) is_first same rest = grind (arith, nat_tests, rest d is_first)

  -- nothing among the others takes the first one's place
  stays_first : ((d e : ℕ) → goes_before d e ≡ true → goes_before e d ≡ false) → (c x : ℕ) → x ≡ c → (xs : List ℕ) → ((d : ℕ) → is_among d xs ≡ true → (c == d) ≡ false → goes_before c d ≡ true) → (first : Option ℕ) → first_by goes_before xs ≡ first → Some (option_map_or (λ d. if goes_before d x then d else x) first x) ≡ Some c
  stays_first one_way c x here xs before None is = ap Some here
  stays_first one_way c x here xs before (Some d) is = elim (eqb_tells c d) [
    | inl same ↦ grind (arith, same.1, here)
    | inr other ↦
        let behind : goes_before d x ≡ false = subst (λ (n : ℕ). goes_before d n ≡ false) (sym here) (one_way c d (before d (first_among xs d is) other.0)) in
        rw behind (ap Some here)
  ]

  -- what goes before each other one is the first
  pub first_by_is : ((d e : ℕ) → goes_before d e ≡ true → goes_before e d ≡ false) → (c : ℕ) (xs : List ℕ) → is_among c xs ≡ true → ((d : ℕ) → is_among d xs ≡ true → (c == d) ≡ false → goes_before c d ≡ true) → first_by goes_before xs ≡ Some c
  first_by_is one_way c [] among before = absurd (false≢true among)
  first_by_is one_way c (x ∷ xs) among before = elim (eqb_tells x c) [
    | inl here ↦ stays_first one_way c x here.1 xs (λ d there. before d (grind (arith, nat_tests, there))) (first_by goes_before xs) refl
    | inr other ↦
        let there : is_among c xs ≡ true = grind (arith, other.0) in
        let rest = first_by_is one_way c xs there (λ d among_rest. before d (grind (arith, nat_tests, among_rest))) in
        let first : goes_before c x ≡ true = before x (grind (arith, nat_tests)) (grind (arith, nat_tests, other.0)) in
        rw (rest, first) refl
  ]

-- where none passes, none is left
none_left : (p : ℕ → Bool) (xs : List ℕ) → ((c : ℕ) → is_among c xs ≡ true → p c ≡ false) → filter p xs ≡ []
none_left p [] none = refl
none_left p (x ∷ xs) none =
    let here : p x ≡ false = none x (grind (arith, nat_tests)) in
    rw here (none_left p xs (λ c there. none c (grind (arith, nat_tests, there))))

module _ (log : List Entry) where
  one_way : (d e : ℕ) → is_idle_longer log d e ≡ true → is_idle_longer log e d ≡ false
  one_way d e earlier = grind (arith, nat_tests, earlier)

  both : {a b : Bool} → a ≡ true → b ≡ true → (a && b) ≡ true
  both e f = rw (e, f) refl

  split : (a b : Bool) → (a && b) ≡ true → (a ≡ true) × (b ≡ true)
  split a b e = grind (arith, e)

  -- the first of the idle ones that pass a test
  first_that : (goes_before : ℕ → ℕ → Bool) → ((d e : ℕ) → goes_before d e ≡ true → goes_before e d ≡ false) → (test : ℕ → Bool) (c : ℕ) → is_idle log c ≡ true → test c ≡ true → ((d : ℕ) → is_idle log d ≡ true → test d ≡ true → (c == d) ≡ false → goes_before c d ≡ true) → first_by goes_before (filter test (idle_connections log)) ≡ Some c
  first_that goes_before turned test c idle passes before =
      let among = is_among-filter test in
      first_by_is goes_before turned c (filter test (idle_connections log))
      (among c (idle_connections log) ∙ both idle passes)
      (λ d there other. let parts = split (is_idle log d) (test d) (sym (among d (idle_connections log)) ∙ there) in before d parts.0 parts.1 other)

  pub newest_is : (want : Want) (moment c : ℕ) → is_idle log c ≡ true → suits log want moment c ≡ true → ((d : ℕ) → is_idle log d ≡ true → suits log want moment d ≡ true → (c == d) ≡ false → is_idle_longer log d c ≡ true) → newest_fit log want moment ≡ Some c
  newest_is want moment c idle suited before = first_that (λ d e. is_idle_longer log e d) (λ d e. one_way e d) (suits log want moment) c idle suited before

  pub newest_none : (want : Want) (moment : ℕ) → ((d : ℕ) → is_idle log d ≡ true → suits log want moment d ≡ false) → newest_fit log want moment ≡ None
  newest_none want moment none = rw (none_left (suits log want moment) (idle_connections log) none) refl

  pub oldest_too_old_is : (want : Want) (moment c : ℕ) → is_idle log c ≡ true → is_too_old_in_lane log want moment c ≡ true → ((d : ℕ) → is_idle log d ≡ true → is_too_old_in_lane log want moment d ≡ true → (c == d) ≡ false → is_idle_longer log c d ≡ true) → oldest_too_old log want moment ≡ Some c
  oldest_too_old_is want moment c idle old before = first_that (is_idle_longer log) one_way (is_too_old_in_lane log want moment) c idle old before

  pub none_too_old : (want : Want) (moment : ℕ) → ((d : ℕ) → is_idle log d ≡ true → is_too_old_in_lane log want moment d ≡ false) → oldest_too_old log want moment ≡ None
  none_too_old want moment none = rw (none_left (is_too_old_in_lane log want moment) (idle_connections log) none) refl

  pub oldest_is : (c : ℕ) → is_idle log c ≡ true → ((d : ℕ) → is_idle log d ≡ true → (c == d) ≡ false → is_idle_longer log c d ≡ true) → oldest log ≡ Some c
  oldest_is c idle before = first_by_is (is_idle_longer log) one_way c (idle_connections log) idle before
