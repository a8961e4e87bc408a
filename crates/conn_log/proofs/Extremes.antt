-- What goes first of a list goes before each other number of it, and so for the oldest and the newest fit.
use Rattle.std.proofs.Common.{◌≡◌, ◌≢◌, ℕ, Bool, true, false, ◌||◌, List, [], ◌∷◌, filter, Option, Some, None, refl, sym, ap, subst, inl, inr, ◌∙◌, arith}
use Rattle.std.specs.Prelude.{◌==◌, if◌then◌else◌}
use Rattle.std.specs.Option.{option_map_or}
use mathlib.Core.Bool.{false≢true}
use Rattle.std.proofs.lemmas.Bool.Decides.{nat_tests, eqb_tells}
use Rattle.conn_log.specs.declared.entry.Want.{Want}
use Rattle.conn_log.specs.declared.entry.Entry.{Entry}
use Rattle.conn_log.specs.Connections.{is_among, since, idle_connections}
use Rattle.conn_log.specs.Fit.{first_by, is_idle_longer, suits, is_fit, newest_fit, oldest}
use Rattle.conn_log.specs.Laws.{CameBackBefore, IsIdleForLongest, IsFitForShortest, OldestIsIdleForLongest, NoOldestIfNoneIsIdle, NewestFitIsIdleForShortest, NoNewestIfNoneIsFit}
use Rattle.conn_log.proofs.Numbers.{is_among-filter}
use Rattle.conn_log.proofs.Firsts.{first_among}
use Rattle.conn_log.proofs.Sorted.{IsStrictOrder, told}
use Rattle.conn_log.proofs.Order.{idle_longer_strict}

-- what a number is, told by an option
abbrev it : Option ℕ → ℕ → ℕ
it None other = other
it (Some c) other = c

same_number : (c d : ℕ) → Some c ≡ Some d → c ≡ d
same_number c d same = ap (λ option. it option c) same

-- there is no first one only of no numbers
pub none_first : (goes_before : ℕ → ℕ → Bool) (xs : List ℕ) → first_by goes_before xs ≡ None → xs ≡ []
none_first goes_before [] none = refl
none_first goes_before (x ∷ xs) none = absurd (cc)

module _ (goes_before : ℕ → ℕ → Bool) (strict : IsStrictOrder goes_before) where
  -- one goes before another that the first of the rest is, or that the first of the rest goes before
  before_next : (x e d : ℕ) → goes_before e x ≡ false → (x == d) ≡ false → ((e == d) ≡ false → goes_before e d ≡ true) → goes_before x d ≡ true
  before_next x e d not_before apart rest = elim (eqb_tells e d) [
    | inl here ↦ subst (λ (n : ℕ). goes_before x n ≡ true) here.1 (strict.either e x (grind (arith, nat_tests, here.1, apart)) not_before)
    | inr other ↦ elim (eqb_tells e x) [
      | inl same ↦ subst (λ (n : ℕ). goes_before n d ≡ true) same.1 (rest other.0)
      | inr further ↦ strict.onward x e d (strict.either e x further.0 not_before) (rest other.0)
    ]
  ]

  -- the first one goes before each other one
  pub first_before : (xs : List ℕ) (c : ℕ) → first_by goes_before xs ≡ Some c → (d : ℕ) → is_among d xs ≡ true → (c == d) ≡ false → goes_before c d ≡ true
  first_before [] c is d among apart = absurd (false≢true among)
  first_before (x ∷ xs) c is d among apart = within (first_by goes_before xs) refl is (λ e some. first_before xs e some d)
    where
      within : (first : Option ℕ) → first_by goes_before xs ≡ first → Some (option_map_or (λ e. if goes_before e x then e else x) first x) ≡ Some c → ((e : ℕ) → first_by goes_before xs ≡ Some e → is_among d xs ≡ true → (e == d) ≡ false → goes_before e d ≡ true) → goes_before c d ≡ true
      within None none same rest =
          let empty : xs ≡ [] = none_first goes_before xs none in
          let one : ((x == d) || false) ≡ true = subst (λ (ns : List ℕ). is_among d (x ∷ ns) ≡ true) empty among in
          grind (arith, nat_tests, same_number x c same, apart, one)
      within (Some e) some same rest = elim (told (goes_before e x)) [
        | inl before ↦
            let here : e ≡ c = same_number e c (sym (ap (λ b. Some (if b then e else x)) before) ∙ same) in
            elim (eqb_tells x d) [
              | inl next ↦ subst (λ (n : ℕ). goes_before n d ≡ true) here (subst (λ (n : ℕ). goes_before e n ≡ true) next.1 before)
              | inr other ↦
                  let there : is_among d xs ≡ true = grind (arith, among, other.0) in
                  subst (λ (n : ℕ). goes_before n d ≡ true) here (rest e some there (grind (arith, nat_tests, here, apart)))
            ]
        | inr after ↦
            let here : x ≡ c = same_number x c (sym (ap (λ b. Some (if b then e else x)) after) ∙ same) in
            let other : (x == d) ≡ false = grind (arith, nat_tests, here, apart) in
            let there : is_among d xs ≡ true = grind (arith, among, other) in
            subst (λ (n : ℕ). goes_before n d ≡ true) here (before_next x e d after other (rest e some there))
      ]

-- the order turned round tells any two apart as well
turned_strict : (goes_before : ℕ → ℕ → Bool) → IsStrictOrder goes_before → IsStrictOrder (λ c d. goes_before d c)
turned_strict goes_before strict = record {
  one_way = λ c d before. strict.one_way d c before;
  onward = λ c d e first second. strict.onward e d c second first;
  either = λ c d apart not_before. strict.either d c (grind (arith, nat_tests, apart)) not_before;
}

module _ (log : List Entry) where
  -- idle for longer: it came back before
  pub came_back_before : (c d : ℕ) → is_idle_longer log c d ≡ true → CameBackBefore log c d
  came_back_before c d longer = elim (eqb_tells (since log c) (since log d)) [
    | inl same ↦ inr (same.1, grind (arith, nat_tests, longer, same.1))
    | inr other ↦ inl (grind (arith, nat_tests, longer, other.1))
  ]

  apart : (c d : ℕ) → d ≢ c → (c == d) ≡ false
  apart c d other = elim (eqb_tells c d) [
    | inl same ↦ absurd (other (sym same.1))
    | inr differs ↦ differs.0
  ]

  pub oldest_is_idle_for_longest : (c : ℕ) → oldest log ≡ Some c → IsIdleForLongest log c
  oldest_is_idle_for_longest c is = record {
    idle = first_among (is_idle_longer log) (idle_connections log) c is;
    first = λ d idle other. came_back_before c d (first_before (is_idle_longer log) (idle_longer_strict log) (idle_connections log) c is d idle (apart c d other));
  }

  pub newest_is_fit_for_shortest : (want : Want) (moment c : ℕ) → newest_fit log want moment ≡ Some c → IsFitForShortest log want moment c
  newest_is_fit_for_shortest want moment c is =
      let test = suits log want moment in
      let among = λ (d : ℕ). is_among-filter test d (idle_connections log) in
      let newer : IsStrictOrder (λ d e. is_idle_longer log e d) = turned_strict (is_idle_longer log) (idle_longer_strict log) in
      record {
        fit = sym (among c) ∙ first_among (λ d e. is_idle_longer log e d) (filter test (idle_connections log)) c is;
        last = λ d fit other. came_back_before d c (first_before (λ d e. is_idle_longer log e d) newer (filter test (idle_connections log)) c is d (among d ∙ fit) (apart c d other));
      }

  pub no_newest : (want : Want) (moment c : ℕ) → newest_fit log want moment ≡ None → is_fit log want moment c ≡ false
  no_newest want moment c none =
      sym (is_among-filter (suits log want moment) c (idle_connections log)) ∙ ap (is_among c) (none_first (λ d e. is_idle_longer log e d) (filter (suits log want moment) (idle_connections log)) none)

pub oldest_law : OldestIsIdleForLongest
oldest_law log c is = oldest_is_idle_for_longest log c is

pub no_oldest_law : NoOldestIfNoneIsIdle
no_oldest_law log none = none_first (is_idle_longer log) (idle_connections log) none

pub newest_law : NewestFitIsIdleForShortest
newest_law log want moment c is = newest_is_fit_for_shortest log want moment c is

pub no_newest_law : NoNewestIfNoneIsFit
no_newest_law log want moment c none = no_newest log want moment c none
