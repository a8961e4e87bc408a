-- A table of waiters as a list: the entry that came last stands first in the table.
use Rattle.std.proofs.Common.{◌≡◌, ℕ, ◌-◌, ◌≤◌, Bool, true, false, not, List, [], ◌∷◌, ◌++◌, length, reverse, get_or, nat_eq, Some, None, is_some, refl, sym, ap, subst, inl, inr, ◌∙◌, arith}
use Rattle.std.specs.Prelude.{◌==◌, if◌then◌else◌, slice_get}
use Rattle.std.specs.Option.{option_map}
use Rattle.std.specs.Map.{values_of, lookup, lookup_entry, remove_entry}
use Rattle.std.proofs.lemmas.Bool.Decides.{nat_tests, eqb_tells}
use Rattle.std.proofs.lemmas.List.{append-nil, reverse-append, take_all, get_or-reverse, length-reverse}
use Rattle.std.proofs.lemmas.List.Elements.{filter-append}
use Rattle.std.proofs.lemmas.List.Folds.{list_any-append}
use Rattle.std.proofs.lemmas.Option.{slice_get-get_or, slice_get-map}
use Rattle.lru.specs.LruCache.{LruCache, last_entry, put_entries}
use Rattle.conn_log.specs.declared.entry.Want.{Want}
use Rattle.conn_log.specs.Waiting.{without}
use Rattle.conn_log.specs.Sound.{WaitOnce}
use Rattle.conn_log.proofs.Queues.{once_without, without_stranger}
use Rattle.log_judge.specs.Waiters.{is_among_waiters, AreKeyed}

-- turned round, the same ones wait
any_reverse : (t : ℕ) (wants : List Want) → is_among_waiters (reverse wants) t ≡ is_among_waiters wants t
any_reverse t [] = refl
any_reverse t (w ∷ wants) = ap (λ (ws : List Want). is_among_waiters ws t) (reverse-append (w ∷ []) wants) ∙ list_any-append (λ (x : Want). x.transfer == t) (reverse wants) (w ∷ []) ∙ grind (arith, any_reverse t wants)

without_reverse : (t : ℕ) (wants : List Want) → without t (reverse wants) ≡ reverse (without t wants)
without_reverse t [] = refl
without_reverse t (w ∷ wants) =
    ap (without t) (reverse-append (w ∷ []) wants) ∙ filter-append (λ (x : Want). not (x.transfer == t)) (reverse wants) (w ∷ []) ∙ ap (λ (ws : List Want). ws ++ without t (w ∷ [])) (without_reverse t wants) ∙ by_test (not (w.transfer == t))
  where
    by_test : (b : Bool) → reverse (without t wants) ++ (if b then w ∷ [] else []) ≡ reverse (if b then w ∷ without t wants else without t wants)
    by_test true = sym (reverse-append (w ∷ []) (without t wants))
    by_test false = append-nil (reverse (without t wants))

-- a transfer is found where it waits
found : (t : ℕ) (es : List (ℕ × Want)) → AreKeyed es → is_some (lookup (nat_eq t) es) ≡ is_among_waiters (values_of es) t
found t [] keyed = refl
found t (e ∷ es) keyed = elim (eqb_tells e.1.transfer t) [
  | inl same ↦ let here : nat_eq t e.0 ≡ true = grind (arith, nat_tests, same.1, keyed.0) in rw (here, same.0) refl
  | inr other ↦ let there : nat_eq t e.0 ≡ false = grind (arith, nat_tests, other.0, keyed.0) in rw (there, other.0) (found t es keyed.1)
]

pub contained : (t : ℕ) (es : List (ℕ × Want)) → AreKeyed es → is_some (lookup (nat_eq t) es) ≡ is_among_waiters (reverse (values_of es)) t
contained t es keyed = found t es keyed ∙ sym (any_reverse t (values_of es))

absent : (t : ℕ) (es : List (ℕ × Want)) → AreKeyed es → is_among_waiters (values_of es) t ≡ false → lookup_entry (nat_eq t) es ≡ None
absent t [] keyed out = refl
absent t (e ∷ es) keyed out =
    let there : nat_eq t e.0 ≡ false = grind (arith, nat_tests, out, keyed.0) in
    let rest : is_among_waiters (values_of es) t ≡ false = grind (arith, out) in
    rw there (absent t es keyed.1 rest)

-- one more, that did not wait
pub put_first : (cache : LruCache ℕ Want) (want : Want) → AreKeyed cache.entries → is_among_waiters (reverse (values_of cache.entries)) want.transfer ≡ false → length cache.entries ≤ cache.cap - 1 → put_entries nat_eq cache want.transfer want ≡ (want.transfer, want) ∷ cache.entries
put_first cache want keyed out fits =
    let none = absent want.transfer cache.entries keyed (sym (any_reverse want.transfer (values_of cache.entries)) ∙ out) in
    rw none (ap (λ (es : List (ℕ × Want)). (want.transfer, want) ∷ es) (take_all (cache.cap - 1) cache.entries fits))

pub once_first : (want : Want) (wants : List Want) → WaitOnce wants → is_among_waiters (reverse wants) want.transfer ≡ false → WaitOnce (want ∷ wants)
once_first want wants once out = (without_stranger want.transfer wants (sym (any_reverse want.transfer wants) ∙ out), once)

pub reverse_first : (want : Want) (wants : List Want) → reverse (want ∷ wants) ≡ reverse wants ++ want ∷ []
reverse_first want wants = reverse-append (want ∷ []) wants

-- one fewer
taken_values : (t : ℕ) (es : List (ℕ × Want)) → AreKeyed es → WaitOnce (values_of es) → values_of (remove_entry (nat_eq t) es) ≡ without t (values_of es)
taken_values t [] keyed once = refl
taken_values t (e ∷ es) keyed once = elim (eqb_tells e.1.transfer t) [
  | inl same ↦
      let here : nat_eq t e.0 ≡ true = grind (arith, nat_tests, same.1, keyed.0) in
      rw (here, same.0) (sym (ap (λ (n : ℕ). without n (values_of es)) (sym same.1) ∙ once.0))
  | inr other ↦
      let there : nat_eq t e.0 ≡ false = grind (arith, nat_tests, other.0, keyed.0) in
      rw (there, other.0) (ap (λ (ws : List Want). e.1 ∷ ws) (taken_values t es keyed.1 once.1))
]

pub taken_out : (t : ℕ) (es : List (ℕ × Want)) → AreKeyed es → WaitOnce (values_of es) → reverse (values_of (remove_entry (nat_eq t) es)) ≡ without t (reverse (values_of es))
taken_out t es keyed once = ap reverse (taken_values t es keyed once) ∙ sym (without_reverse t (values_of es))

pub keyed_without : (t : ℕ) (es : List (ℕ × Want)) → AreKeyed es → AreKeyed (remove_entry (nat_eq t) es)
keyed_without t [] keyed = tt
keyed_without t (e ∷ es) keyed = elim (eqb_tells t e.0) [
  | inl same ↦ rw same.0 keyed.1
  | inr other ↦ rw other.0 (keyed.0, keyed_without t es keyed.1)
]

pub once_taken : (t : ℕ) (es : List (ℕ × Want)) → AreKeyed es → WaitOnce (values_of es) → WaitOnce (values_of (remove_entry (nat_eq t) es))
once_taken t es keyed once = subst WaitOnce (sym (taken_values t es keyed once)) (once_without t (values_of es) once)

-- the first one
pub first_is : (es : List (ℕ × Want)) → slice_get (reverse (values_of es)) 0 ≡ option_map (λ (e : ℕ × Want). e.1) (last_entry es)
first_is [] = refl
first_is (e ∷ es) =
    let wants = values_of (e ∷ es) in
    let turned : length (reverse wants) ≡ length wants = length-reverse wants in
    slice_get-get_or (reverse wants) 0 e.1 (omega (arith, turned)) ∙ ap (λ (w : Want). Some w) (get_or-reverse wants 0 e.1 (omega arith)) ∙ ap (λ (n : ℕ). Some (get_or wants n e.1)) (less_none (length wants - 1)) ∙ sym (slice_get-get_or wants (length wants - 1) e.1 (omega arith)) ∙ slice_get-map (λ (x : ℕ × Want). x.1) (e ∷ es) (length wants - 1) ∙ ap (λ (n : ℕ). option_map (λ (x : ℕ × Want). x.1) (slice_get (e ∷ es) (n - 1))) (lengths (e ∷ es))
  where
    less_none : (n : ℕ) → n - 0 ≡ n
    less_none n = omega arith

    lengths : (xs : List (ℕ × Want)) → length (values_of xs) ≡ length xs
    lengths [] = refl
    lengths (x ∷ xs) = omega (arith, lengths xs)
