-- What a base tells of a legal log's entries, and a rest with it.
use Rattle.std.proofs.Common.{◌≡◌, ℕ, ◌+◌, ◌-◌, max, Bool, true, false, not, ◌&&◌, ◌||◌, List, [], ◌∷◌, ◌++◌, filter, reverse, Option, Some, None, is_some, refl, sym, ap, subst, inl, inr, ◌∙◌, arith}
use Rattle.std.specs.Prelude.{◌==◌, if◌then◌else◌}
use Rattle.std.specs.Option.{option_map, unwrap_or}
use Rattle.std.specs.Map.{keys_of}
use Rattle.std.proofs.lemmas.List.{append-nil, reverse-append}
use Rattle.std.proofs.lemmas.List.Elements.{filter-append}
use Rattle.std.specs.Ordering.{nat_cmp}
use Rattle.std.specs.BTreeMap.{insert_entry}
use Rattle.std.proofs.lemmas.Bool.Decides.{nat_tests, eqb_tells}
use mathlib.Core.Bool.{false≢true}
use Rattle.persistence.specs.declared.facts.Facts.{Facts}
use Rattle.conn_log.specs.declared.base.OpenConnection.{OpenConnection}
use Rattle.conn_log.specs.declared.entry.Want.{Want}
use Rattle.conn_log.specs.declared.entry.Cause.{Cause}
use Rattle.conn_log.specs.declared.entry.Event.{Event}
use Rattle.conn_log.specs.declared.entry.Event.TheVariants.{Opened, Leased, Returned, Closed, Waited, Left, Limit}
use Rattle.conn_log.specs.declared.entry.Entry.{Entry}
use Rattle.conn_log.specs.Connections.{is_among, opened, opened_after, greatest, is_closed, open_connections, is_open, holder_want, since, born, lane, last_facts}
use Rattle.conn_log.specs.Legal.{LimitAndFirst, limit_in_force, limit_after, Allows, IsLegal}
use Rattle.conn_log.specs.Bases.{as_opened, as_leased, as_returned, known_in, greatest_after, last_limit_after, summary}
use Rattle.conn_log.specs.Laws.{ABaseTellsItsEntries, known_of}
use Rattle.conn_log.proofs.Sorted.{told}
use Rattle.conn_log.proofs.Numbers.{is_among-filter, parted, le-greatest}
use Rattle.conn_log.specs.Sound.{AreDistinct}
use Rattle.conn_log.proofs.Holdings.{holder_returned, holder_closed}
use Rattle.conn_log.proofs.Waits.{filter-filter}
use Rattle.conn_log.proofs.Steps.{is_open_is, opened_not_closed, open_before}
use Rattle.conn_log.proofs.CountSums.{AddsUp, adds_up}
use Rattle.conn_log.proofs.Bases.{summary_waits, summary_counts, summary_moment}
use Rattle.conn_log.proofs.Entries.{known_before, known_last, insert_last, keys_last, keys_changed, known_changed, keys_removed, known_removed}

-- among some numbers is among them turned
among_append : (c : ℕ) (xs ys : List ℕ) → is_among c (xs ++ ys) ≡ (is_among c xs || is_among c ys)
among_append c [] ys = refl
among_append c (x ∷ xs) ys = grind (arith, among_append c xs ys)

pub among_reverse : (c : ℕ) (xs : List ℕ) → is_among c (reverse xs) ≡ is_among c xs
among_reverse c [] = refl
among_reverse c (x ∷ xs) = ap (is_among c) (reverse-append (x ∷ []) xs) ∙ among_append c (reverse xs) (x ∷ []) ∙ grind (arith, among_reverse c xs)

-- what the base has of connections is what its entries say, and what was not opened did not come back
pub record Knows (log : List Entry) : Type 0 where
  pub numbers : keys_of (summary log).connections ≡ reverse (open_connections log)
  pub known : (c : ℕ) → is_open log c ≡ true → known_in (summary log).connections c ≡ Some (known_of log c)
  pub fresh : (c : ℕ) → is_among c (opened log) ≡ false → (since log c ≡ 0) × (last_facts log c ≡ None)

pub among_known : (log : List Entry) → Knows log → (c : ℕ) → is_among c (keys_of (summary log).connections) ≡ is_open log c
among_known log knows c = ap (is_among c) knows.numbers ∙ among_reverse c (open_connections log)

-- what is open once a connection was closed
open_others : (c : ℕ) (log : List Entry) (moment : ℕ) (cause : Cause) → open_connections (record { moment = moment; event = Closed c cause } ∷ log) ≡ filter (λ d. not (c == d)) (open_connections log)
open_others c log moment cause = sym (filter-filter (λ d. not (c == d)) (λ d. not (is_closed log d)) _ (λ d. both (c == d) (is_closed log d)) (opened log))
  where
    both : (a b : Bool) → not (a || b) ≡ (not b && not a)
    both true true = refl
    both true false = refl
    both false true = refl
    both false false = refl

filter-reverse : (p : ℕ → Bool) (xs : List ℕ) → filter p (reverse xs) ≡ reverse (filter p xs)
filter-reverse p [] = refl
filter-reverse p (x ∷ xs) =
    ap (filter p) (reverse-append (x ∷ []) xs) ∙ filter-append p (reverse xs) (x ∷ []) ∙ ap (λ ys. ys ++ filter p (x ∷ [])) (filter-reverse p xs) ∙ by_test (p x)
  where
    by_test : (b : Bool) → reverse (filter p xs) ++ (if b then x ∷ [] else []) ≡ reverse (if b then x ∷ filter p xs else filter p xs)
    by_test true = sym (reverse-append (x ∷ []) (filter p xs))
    by_test false = append-nil (reverse (filter p xs))

distinct-filter : (p : ℕ → Bool) (xs : List ℕ) → AreDistinct xs → AreDistinct (filter p xs)
distinct-filter p [] once = tt
distinct-filter p (x ∷ xs) once = elim (told (p x)) [
  | inl passes ↦ rw passes (is_among-filter p x xs ∙ ap (λ b. b && p x) once.0, distinct-filter p xs once.1)
  | inr fails ↦ rw fails (distinct-filter p xs once.1)
]

distinct_last : (x : ℕ) (xs : List ℕ) → AreDistinct xs → is_among x xs ≡ false → AreDistinct (xs ++ x ∷ [])
distinct_last x [] once new = (refl, tt)
distinct_last x (y ∷ xs) once new =
    (among_append y xs (x ∷ []) ∙ grind (arith, nat_tests, once.0, new), distinct_last x xs once.1 (grind (arith, new)))

distinct-reverse : (xs : List ℕ) → AreDistinct xs → AreDistinct (reverse xs)
distinct-reverse [] once = tt
distinct-reverse (x ∷ xs) once =
    subst AreDistinct (sym (reverse-append (x ∷ []) xs)) (distinct_last x (reverse xs) (distinct-reverse xs once.1) (among_reverse x xs ∙ once.0))

-- the known ones are the same where each of their facts is
same_known : (x y : OpenConnection) → x.lane ≡ y.lane → x.born ≡ y.born → x.since ≡ y.since → x.facts ≡ y.facts → x.holder ≡ y.holder → x ≡ y
same_known x y lane born since facts holder i = record { lane = lane i; born = born i; since = since i; facts = facts i; holder = holder i }

some_same : (x y : OpenConnection) → x ≡ y → Some x ≡ Some y
some_same x y same = ap Some same

module _ (moment : ℕ) (log : List Entry) (sums : AddsUp log) (knows : Knows log) where
  abbrev kept : List (ℕ × OpenConnection)
  kept = (summary log).connections

  -- a number that was not opened is neither open, nor closed, nor held
  not_open : (c : ℕ) → is_among c (opened log) ≡ false → is_open log c ≡ false
  not_open c new = is_open_is log c ∙ ap (λ b. b && not (is_closed log c)) new

  not_closed : (c : ℕ) → is_among c (opened log) ≡ false → is_closed log c ≡ false
  not_closed c new = elim (told (is_closed log c)) [
    | inl closed ↦ absurd (false≢true (sym new ∙ sums.closed_opened c closed))
    | inr open_still ↦ open_still
  ]

  opened_knows : (settings : LimitAndFirst) (c : ℕ) (want : Want) → c ≡ greatest settings.first (opened log) + 1 → is_among c (opened log) ≡ false → Knows (record { moment = moment; event = Opened c want } ∷ log)
  opened_knows settings c want next new =
      let after = record { moment = moment; event = Opened c want } ∷ log in
      let last : insert_entry nat_cmp kept c (as_opened moment want) ≡ kept ++ (c, as_opened moment want) ∷ [] =
      insert_last c (as_opened moment want) kept (λ d among. omega (arith, next, le-greatest settings.first d (opened log) (opened_not_closed log d (sym (among_known log knows d) ∙ among)).0)) in
      let still : is_closed log c ≡ false = not_closed c new in
      let open_now : open_connections after ≡ c ∷ open_connections log = ap (λ b. if not b then c ∷ open_connections log else open_connections log) still in
      record {
        numbers = ap keys_of last ∙ keys_last c (as_opened moment want) kept ∙ ap (λ numbers. numbers ++ c ∷ []) knows.numbers ∙ sym (ap reverse open_now ∙ reverse-append (c ∷ []) (open_connections log));
        known = λ d is_open_now. ap (λ (es : List (ℕ × OpenConnection)). known_in es d) last ∙ elim (eqb_tells c d) [
          | inl same ↦
              let first = known_last c kept (as_opened moment want) (among_known log knows c ∙ not_open c new) in
              let what : as_opened moment want ≡ known_of after c = same_known _ _ (own c want.lane (lane log c)) (own c moment (born log c)) (sym (knows.fresh c new).0) (sym (knows.fresh c new).1) (own_want c (Some want) (holder_want log c)) in
              subst (λ (n : ℕ). known_in (kept ++ (c, as_opened moment want) ∷ []) n ≡ Some (known_of after n)) same.1 (first ∙ ap Some what)
          | inr other ↦
              let before : is_open log d ≡ true = open_before c d moment want log other.0 is_open_now in
              let what : known_of log d ≡ known_of after d = same_known _ _ (ap (λ b. if b then want.lane else lane log d) (sym other.0)) (ap (λ b. if b then moment else born log d) (sym other.0)) refl refl (ap (λ b. if b then Some want else holder_want log d) (sym other.0)) in
              known_before d kept ((c, as_opened moment want) ∷ []) (known_of log d) (knows.known d before) ∙ ap Some what
        ];
        fresh = λ d unopened. knows.fresh d (grind (arith, nat_tests, unopened));
      }
    where
      itself : (n : ℕ) → true ≡ (n == n)
      itself n = grind (arith, nat_tests)

      own : (n x y : ℕ) → x ≡ (if n == n then x else y)
      own n x y = ap (λ b. if b then x else y) (itself n)

      own_want : (n : ℕ) (x y : Option Want) → x ≡ (if n == n then x else y)
      own_want n x y = ap (λ b. if b then x else y) (itself n)

  leased_knows : (c : ℕ) (want : Want) → Knows (record { moment = moment; event = Leased c want } ∷ log)
  leased_knows c want =
      let after = record { moment = moment; event = Leased c want } ∷ log in
      record {
        numbers = keys_changed (as_leased want) c kept ∙ knows.numbers;
        known = λ d is_open_now. known_changed (as_leased want) c kept d ∙ ap (λ found. if c == d then option_map (as_leased want) found else found) (knows.known d is_open_now) ∙ by_test (c == d) (holder_want log d) d;
        fresh = knows.fresh;
      }
    where
      by_test : (same : Bool) (held : Option Want) (d : ℕ) → (if same then Some (as_leased want (record (known_of log d) { holder = held })) else Some (record (known_of log d) { holder = held })) ≡ Some (record (known_of log d) { holder = if same then Some want else held })
      by_test true held d = refl
      by_test false held d = refl

  returned_knows : (c : ℕ) (facts : Facts) → is_some (holder_want log c) ≡ true → Knows (record { moment = moment; event = Returned c facts } ∷ log)
  returned_knows c facts held =
      let after = record { moment = moment; event = Returned c facts } ∷ log in
      record {
        numbers = keys_changed (as_returned moment facts) c kept ∙ knows.numbers;
        known = λ d is_open_now. known_changed (as_returned moment facts) c kept d ∙ ap (λ found. if c == d then option_map (as_returned moment facts) found else found) (knows.known d is_open_now)
            ∙ by_test (c == d) d ∙ ap (λ holder. Some (record (known_of log d) { since = if c == d then moment else since log d; facts = if c == d then Some facts else last_facts log d; holder = holder })) (sym (holder_returned moment c facts log d));
        fresh = λ d unopened.
            let apart : (d == c) ≡ false = parted d c (opened log) unopened (opened_not_closed log c (sums.held_open c held)).0 in
            let other : (c == d) ≡ false = grind (arith, nat_tests, apart) in
            (ap (λ b. if b then moment else since log d) other ∙ (knows.fresh d unopened).0, ap (λ b. if b then Some facts else last_facts log d) other ∙ (knows.fresh d unopened).1);
      }
    where
      by_test : (same : Bool) (d : ℕ) → (if same then Some (as_returned moment facts (known_of log d)) else Some (known_of log d)) ≡ Some (record (known_of log d) { since = if same then moment else since log d; facts = if same then Some facts else last_facts log d; holder = if same then None else holder_want log d })
      by_test true d = refl
      by_test false d = refl

  closed_knows : (c : ℕ) (cause : Cause) → Knows (record { moment = moment; event = Closed c cause } ∷ log)
  closed_knows c cause =
      let after = record { moment = moment; event = Closed c cause } ∷ log in
      let once : AreDistinct (keys_of kept) = subst AreDistinct (sym knows.numbers) (distinct-reverse (open_connections log) (distinct-filter _ (opened log) sums.distinct)) in
      record {
        numbers = keys_removed c kept once ∙ ap (filter (λ d. not (c == d))) knows.numbers ∙ filter-reverse (λ d. not (c == d)) (open_connections log) ∙ ap reverse (sym (open_others c log moment cause));
        known = λ d is_open_now.
            let parts : ((c == d) ≡ false) × (is_open log d ≡ true) = grind (arith, is_open_is after d, is_open_is log d, is_open_now) in
            known_removed c d kept parts.0 ∙ knows.known d parts.1 ∙ ap (λ holder. Some (record (known_of log d) { holder = holder })) (sym (holder_closed moment c cause log d ∙ ap (λ b. if b then None else holder_want log d) parts.0));
        fresh = knows.fresh;
      }

  entry_knows : (settings : LimitAndFirst) (event : Event) → Allows settings log moment event → AddsUp (record { moment = moment; event = event } ∷ log) → Knows (record { moment = moment; event = event } ∷ log)
  entry_knows settings (Opened c want) allowed after = opened_knows settings c want allowed.1.next after.distinct.0
  entry_knows settings (Leased c want) allowed after = leased_knows c want
  entry_knows settings (Returned c facts) allowed after = returned_knows c facts allowed.1
  entry_knows settings (Closed c cause) allowed after = closed_knows c cause
  entry_knows settings (Waited want) allowed after = record { numbers = knows.numbers; known = knows.known; fresh = knows.fresh }
  entry_knows settings (Left transfer) allowed after = record { numbers = knows.numbers; known = knows.known; fresh = knows.fresh }
  entry_knows settings (Limit n) allowed after = record { numbers = knows.numbers; known = knows.known; fresh = knows.fresh }

pub knows_all : (settings : LimitAndFirst) (log : List Entry) → IsLegal settings log → Knows log
knows_all settings [] legal = record { numbers = refl; known = λ c is_open_now. absurd (false≢true is_open_now); fresh = λ c new. (refl, refl) }
knows_all settings (e ∷ before) legal = entry_knows e.moment before (adds_up settings before legal.2) (knows_all settings before legal.2) settings e.event legal.1 (adds_up settings (e ∷ before) legal)

-- the greatest number and the limit, which no base can tell without the host's own
greatest_told : (settings : LimitAndFirst) (log : List Entry) → max (settings.first - 1) (summary log).greatest ≡ greatest settings.first (opened log)
greatest_told settings [] = omega arith
greatest_told settings (e ∷ before) = by_event e.event (greatest_told settings before)
  where
    by_event : (event : Event) → max (settings.first - 1) (summary before).greatest ≡ greatest settings.first (opened before) → max (settings.first - 1) (greatest_after event (summary before).greatest) ≡ greatest settings.first (opened_after event (opened before))
    by_event (Opened c want) so_far = omega (arith, so_far)
    by_event (Leased c want) so_far = so_far
    by_event (Returned c facts) so_far = so_far
    by_event (Closed c cause) so_far = so_far
    by_event (Waited want) so_far = so_far
    by_event (Left transfer) so_far = so_far
    by_event (Limit n) so_far = so_far

limit_told : (settings : LimitAndFirst) (log : List Entry) → unwrap_or (summary log).limit settings.limit ≡ limit_in_force settings log
limit_told settings [] = refl
limit_told settings (e ∷ before) = by_event e.event (limit_told settings before)
  where
    by_event : (event : Event) → unwrap_or (summary before).limit settings.limit ≡ limit_in_force settings before → unwrap_or (last_limit_after event (summary before).limit) settings.limit ≡ limit_after event (limit_in_force settings before)
    by_event (Opened c want) so_far = so_far
    by_event (Leased c want) so_far = so_far
    by_event (Returned c facts) so_far = so_far
    by_event (Closed c cause) so_far = so_far
    by_event (Waited want) so_far = so_far
    by_event (Left transfer) so_far = so_far
    by_event (Limit n) so_far = refl

pub base_tells : ABaseTellsItsEntries
base_tells settings log legal =
    let knows = knows_all settings log legal in
    record {
      numbers = knows.numbers;
      known = knows.known;
      waiting = summary_waits log;
      greatest = greatest_told settings log;
      last_moment = summary_moment log;
      limit = limit_told settings log;
      counts = summary_counts log;
    }
