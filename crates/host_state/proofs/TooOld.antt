-- Closing what is too old, and ending the search for it early.
use Rattle.std.proofs.Common.{◌≡◌, ℕ, ◌<◌, ◌≤◌, Bool, true, false, not, ◌&&◌, List, [], ◌∷◌, length, filter, get_or, None, refl, sym, ap, subst, inl, inr, ◌∙◌, arith}
use Rattle.std.specs.Prelude.{◌==◌}
use mathlib.Core.Bool.{false≢true}
use Rattle.std.proofs.lemmas.Bool.{cases_eq, cases_lt}
use Rattle.std.proofs.lemmas.Bool.Decides.{nat_tests}
use Rattle.std.proofs.lemmas.List.{get_or_default}
use Rattle.conn_log.specs.declared.entry.Want.{Want}
use Rattle.conn_log.specs.declared.entry.Event.TheVariants.{Closed}
use Rattle.conn_log.specs.declared.entry.Entry.{Entry}
use Rattle.conn_log.specs.Connections.{is_among, idle_connections}
use Rattle.conn_log.specs.Fit.{is_older, first_by, is_idle_longer, idle_in_order, is_too_old_in_lane, oldest_too_old}
use Rattle.conn_log.proofs.Numbers.{is_among-filter}
use Rattle.conn_log.proofs.Order.{among_idle_in_order}
use Rattle.host_state.specs.declared.closing.Closing.{Closing}
use Rattle.host_state.specs.declared.closing.Closing.TheVariants.{TooOld}
use Rattle.host_state.specs.declared.idle.Idle.{Idle}
use Rattle.host_state.specs.Steps.{add, close_each, cause_of, picked, without_picked}
use Rattle.host_state.specs.Idle.{is_before, item_too_old, item_older, ends_search, AreInOrder, NoneTooOld, NoneOlder}

-- where a closing picks none, none is closed
pub none_picked : (closing : Closing) (moment : ℕ) (log : List Entry) → picked closing moment log ≡ [] → without_picked closing moment log ≡ log
none_picked closing moment log none = ap (λ numbers. close_each (cause_of closing) moment numbers log) none

-- the first that it picks is closed before the others
pub one_closed : (closing : Closing) (moment c : ℕ) (log after : List Entry) → picked closing moment log ≡ c ∷ picked closing moment after → after ≡ add moment (Closed c (cause_of closing)) log → without_picked closing moment log ≡ without_picked closing moment after
one_closed closing moment c log after first is =
    ap (λ numbers. close_each (cause_of closing) moment numbers log) first
    ∙ ap (close_each (cause_of closing) moment (picked closing moment after)) (sym is)

-- where none is the oldest that is too old, none is too old
pub none_too_old_picked : (want : Want) (moment : ℕ) (log : List Entry) → oldest_too_old log want moment ≡ None → picked (TooOld want) moment log ≡ []
none_too_old_picked want moment log none = none_left (idle_in_order log) (λ c there. fails c (sym (among_idle_in_order log c) ∙ there) (is_too_old_in_lane log want moment c) refl)
  where
    first_none : (goes_before : ℕ → ℕ → Bool) (xs : List ℕ) → first_by goes_before xs ≡ None → xs ≡ []
    first_none goes_before [] is = refl
    first_none goes_before (x ∷ xs) is = absurd (cc)

    empty : filter (is_too_old_in_lane log want moment) (idle_connections log) ≡ []
    empty = first_none (is_idle_longer log) (filter (is_too_old_in_lane log want moment) (idle_connections log)) none

    fails : (c : ℕ) → is_among c (idle_connections log) ≡ true → (b : Bool) → is_too_old_in_lane log want moment c ≡ b → is_too_old_in_lane log want moment c ≡ false
    fails c there false is = is
    fails c there true is = absurd (false≢true (ap (is_among c) (sym empty) ∙ is_among-filter (is_too_old_in_lane log want moment) c (idle_connections log) ∙ rw (there, is) refl))

    none_left : (xs : List ℕ) → ((c : ℕ) → is_among c xs ≡ true → is_too_old_in_lane log want moment c ≡ false) → filter (is_too_old_in_lane log want moment) xs ≡ []
    none_left [] each = refl
    none_left (x ∷ xs) each = rw (each x (grind (arith, nat_tests))) (none_left xs (λ c there. each c (grind (arith, nat_tests, there))))

pub none_closed : (want : Want) (moment : ℕ) (log : List Entry) → oldest_too_old log want moment ≡ None → without_picked (TooOld want) moment log ≡ log
none_closed want moment log none = none_picked (TooOld want) moment log (none_too_old_picked want moment log none)

-- one that is idle for no longer is no older, where no lifetime is asked
no_older : (since born number other_since other_born other_number max_age max_life moment : ℕ) → is_before since number other_since other_number ≡ true → ((max_life == 0) && not (is_older since born max_age max_life moment)) ≡ true → is_older other_since other_born max_age max_life moment ≡ false
no_older since born number other_since other_born other_number max_age max_life moment before young = grind (arith, nat_tests, before, young)

no_older_itself : (since born max_age max_life moment : ℕ) → ((max_life == 0) && not (is_older since born max_age max_life moment)) ≡ true → is_older since born max_age max_life moment ≡ false
no_older_itself since born max_age max_life moment young = grind (arith, young)

-- where no lifetime is asked and the one at a place is young enough, none from there on is older
pub young_from_place : {S : Type 0} (max_age max_life moment place : ℕ) (idle : List (Idle S)) (x : Idle S) → AreInOrder idle → place < length idle → x ≡ get_or idle place x → ((max_life == 0) && not (item_older max_age max_life moment x)) ≡ true → (k : ℕ) (d : Idle S) → place ≤ k → k < length idle → item_older max_age max_life moment (get_or idle k d) ≡ false
young_from_place max_age max_life moment place idle x ordered within is young k d from range =
    let y = get_or idle place d in
    let z = get_or idle k d in
    let y_young : ((max_life == 0) && not (item_older max_age max_life moment y)) ≡ true = subst (λ (w : Idle _). ((max_life == 0) && not (item_older max_age max_life moment w)) ≡ true) (is ∙ get_or_default idle place x d within) young in
    elim (cases_eq k place) [
      | inl here ↦ subst (λ (n : ℕ). item_older max_age max_life moment (get_or idle n d) ≡ false) (sym here) (no_older_itself y.since y.born max_age max_life moment y_young)
      | inr later ↦ no_older y.since y.born y.number z.since z.born z.number max_age max_life moment (ordered place k d (omega (arith, from, later)) range) y_young
    ]

-- where none before a place is too old, and none after it can be
pub none_from_place : {S : Type 0} (want : Want) (moment place : ℕ) (idle : List (Idle S)) (x : Idle S) → AreInOrder idle → place < length idle → x ≡ get_or idle place x → ends_search want moment x ≡ true → ((k : ℕ) (d : Idle S) → k < place → item_too_old want moment (get_or idle k d) ≡ false) → NoneTooOld want moment idle
none_from_place want moment place idle x ordered within is young before k d range = elim (cases_lt k place) [
  | inl sooner ↦ before k d sooner
  | inr from ↦ (let z = get_or idle k d in in_lane (z.lane == want.lane) want.fresh (item_older want.max_age want.max_life moment z) (young_from_place want.max_age want.max_life moment place idle x ordered within is young k d from range))
]
  where
    in_lane : (lane fresh older : Bool) → older ≡ false → (lane && not fresh && older) ≡ false
    in_lane lane fresh older e = grind (arith, e)

pub none_older_from_place : {S : Type 0} (max_age max_life moment place : ℕ) (idle : List (Idle S)) (x : Idle S) → AreInOrder idle → place < length idle → x ≡ get_or idle place x → (max_life == 0) ≡ true → item_older max_age max_life moment x ≡ false → ((k : ℕ) (d : Idle S) → k < place → item_older max_age max_life moment (get_or idle k d) ≡ false) → NoneOlder max_age max_life moment idle
none_older_from_place max_age max_life moment place idle x ordered within is no_life young before k d range = elim (cases_lt k place) [
  | inl sooner ↦ before k d sooner
  | inr from ↦ young_from_place max_age max_life moment place idle x ordered within is (both (max_life == 0) (item_older max_age max_life moment x) no_life young) k d from range
]
  where
    both : (a b : Bool) → a ≡ true → b ≡ false → (a && not b) ≡ true
    both a b e f = rw (e, f) refl
