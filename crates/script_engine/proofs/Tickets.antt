-- The transfers that have a ticket, as the keys of the map that keeps their tickets.
use Rattle.std.proofs.Common.{◌≡◌, ℕ, Bool, true, false, cond, ◌||◌, List, [], ◌∷◌, refl, ap, sym, ◌∙◌, arith, subst, Some, is_some, Less, Equal, Greater}
use Rattle.std.specs.Prelude.{◌==◌, nat_lt, slice_get}
use Rattle.std.specs.List.{AllByRecursion}
use Rattle.std.specs.List.Sorted.{IsStrictlySortedBy}
use Rattle.std.specs.Ordering.{nat_cmp, match_ordering}
use Rattle.std.specs.Map.{keys_of, lookup, remove_entry}
use Rattle.std.specs.BTreeMap.{is_at, insert_entry}
use Rattle.std.proofs.lemmas.Bool.{eqb-true}
use Rattle.std.proofs.lemmas.Bool.Decides.{nat_tests}
use Rattle.conn_log.specs.Connections.{is_among}
use Rattle.script_engine.specs.Meaning.{with_ticket, without_ticket}
use Rattle.script_engine.specs.Hosted.{is_ticket_first}

-- the query for a number finds that number
pub at-key : (k q : ℕ) → is_at (nat_cmp k) q ≡ (k == q)
at-key k q = grind (arith, nat_tests)

module _ {A : Type 0} where
  pub keys-inserted : (entries : List (ℕ × A)) (t : ℕ) (x : A) → keys_of (insert_entry nat_cmp entries t x) ≡ with_ticket t (keys_of entries)
  keys-inserted [] t x = refl
  keys-inserted (e ∷ others) t x = by_order (nat_lt t e.0) (t == e.0) (keys-inserted others t x)
    where
      by_order : (less same : Bool) → keys_of (insert_entry nat_cmp others t x) ≡ with_ticket t (keys_of others) → keys_of (match_ordering (cond less Less (cond same Equal Greater)) ((t, x) ∷ e ∷ others) ((e.0, x) ∷ others) (e ∷ insert_entry nat_cmp others t x))
          ≡ cond less (t ∷ e.0 ∷ keys_of others) (cond same (e.0 ∷ keys_of others) (e.0 ∷ with_ticket t (keys_of others)))
      by_order true same rest = refl
      by_order false true rest = refl
      by_order false false rest = ap (λ keys. e.0 ∷ keys) rest

  pub keys-removed : (entries : List (ℕ × A)) (t : ℕ) → keys_of (remove_entry (is_at (nat_cmp t)) entries) ≡ without_ticket t (keys_of entries)
  keys-removed [] t = refl
  keys-removed (e ∷ others) t = by_key (is_at (nat_cmp t) e.0) (t == e.0) (at-key t e.0) (keys-removed others t)
    where
      by_key : (at same : Bool) → at ≡ same → keys_of (remove_entry (is_at (nat_cmp t)) others) ≡ without_ticket t (keys_of others) → keys_of (cond at others (e ∷ remove_entry (is_at (nat_cmp t)) others)) ≡ cond same (keys_of others) (e.0 ∷ without_ticket t (keys_of others))
      by_key true true is rest = refl
      by_key false false is rest = ap (λ keys. e.0 ∷ keys) rest
      by_key true false is rest = absurd (cc)
      by_key false true is rest = absurd (cc)

  pub among-keys : (entries : List (ℕ × A)) (t : ℕ) → is_among t (keys_of entries) ≡ is_some (lookup (is_at (nat_cmp t)) entries)
  among-keys [] t = refl
  among-keys (e ∷ others) t = by_key (e.0 == t) (is_at (nat_cmp t) e.0) (turned e.0 t ∙ sym (at-key t e.0)) (among-keys others t)
    where
      turned : (x y : ℕ) → (x == y) ≡ (y == x)
      turned x y = grind (arith, nat_tests)

      by_key : (same at : Bool) → same ≡ at → is_among t (keys_of others) ≡ is_some (lookup (is_at (nat_cmp t)) others) → (same || is_among t (keys_of others)) ≡ is_some (cond at (Some e.1) (lookup (is_at (nat_cmp t)) others))
      by_key true true is rest = refl
      by_key false false is rest = rest
      by_key true false is rest = absurd (cc)
      by_key false true is rest = absurd (cc)

-- what was taken out and put in again stands where it stood
below-all : (x t : ℕ) (others : List ℕ) → AllByRecursion (λ y. nat_cmp x y ≡ Less) others → is_among t others ≡ true → nat_cmp x t ≡ Less
below-all x t [] above among = absurd (cc)
below-all x t (y ∷ others) above among = by_first (y == t) refl among (below-all x t others above.1)
  where
    by_first : (first : Bool) → (y == t) ≡ first → (first || is_among t others) ≡ true → (is_among t others ≡ true → nat_cmp x t ≡ Less) → nat_cmp x t ≡ Less
    by_first true is among' rest = subst (λ k. nat_cmp x k ≡ Less) (eqb-true y t is) above.0
    by_first false is among' rest = rest among'

pub put-back : (t : ℕ) (tickets : List ℕ) → IsStrictlySortedBy nat_cmp tickets → is_among t tickets ≡ true → with_ticket t (without_ticket t tickets) ≡ tickets
unfolding IsStrictlySortedBy
put-back t [] sorted among = absurd (cc)
put-back t (x ∷ others) sorted among = by_first (t == x) refl (put-back t others sorted.1)
  where
    turned : (k q : ℕ) → (k == q) ≡ (q == k)
    turned k q = grind (arith, nat_tests)

    rest-among : (here there : Bool) → here ≡ false → (here || there) ≡ true → there ≡ true
    rest-among true there e h = cc
    rest-among false there e h = h

    less-is : (k q : ℕ) → nat_cmp k q ≡ Less → nat_lt k q ≡ true
    less-is k q e = grind (arith, nat_tests)

    not-less : (k q : ℕ) → nat_cmp k q ≡ Less → nat_lt q k ≡ false
    not-less k q e = grind (arith, nat_tests)

    first-back : (rest : List ℕ) → AllByRecursion (λ y. nat_cmp t y ≡ Less) rest → with_ticket t rest ≡ t ∷ rest
    first-back [] above = refl
    first-back (y ∷ rest) above = rw (less-is t y above.0) refl

    by_first : (first : Bool) → (t == x) ≡ first → (is_among t others ≡ true → with_ticket t (without_ticket t others) ≡ others) → with_ticket t (cond first others (x ∷ without_ticket t others)) ≡ x ∷ others
    by_first true is rest =
        let same : t ≡ x = eqb-true t x is in
        first-back others (subst (λ k. AllByRecursion (λ y. nat_cmp k y ≡ Less) others) (sym same) sorted.0) ∙ ap (λ k. k ∷ others) same
    by_first false is rest =
        let later : is_among t others ≡ true = rest-among (x == t) (is_among t others) (turned x t ∙ is) among in
        rw (not-less x t (below-all x t others sorted.0 later), is) (ap (λ keys. x ∷ keys) (rest later))

-- the first key is that of the first entry
pub first-by-keys : {A B : Type 0} (holders : List (ℕ × A)) (waiters : List (ℕ × B)) (holder : ℕ × A) (waiter : ℕ × B) → slice_get holders 0 ≡ Some holder → slice_get waiters 0 ≡ Some waiter
    → nat_lt waiter.0 holder.0 ≡ is_ticket_first (keys_of holders) (keys_of waiters)
first-by-keys [] waiters holder waiter h w = absurd (cc)
first-by-keys (h ∷ holders) [] holder waiter h_is w_is = absurd (cc)
first-by-keys (h ∷ holders) (w ∷ waiters) holder waiter h_is w_is =
    let same_holder : h ≡ holder = cc in
    let same_waiter : w ≡ waiter = cc in
    rw (sym same_holder, sym same_waiter) refl
