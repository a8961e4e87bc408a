-- The transfers that wait, as a list of what they want.
use Rattle.std.proofs.Common.{◌≡◌, ℕ, ◌+◌, Bool, true, false, not, ◌&&◌, ◌||◌, List, [], ◌∷◌, ◌++◌, length, drop, Option, refl, sym, ap, inl, inr, ◌∙◌, arith}
use Rattle.std.specs.Prelude.{◌==◌}
use Rattle.std.specs.List.{list_any}
use mathlib.Core.Bool.{false≢true}
use Rattle.std.proofs.lemmas.Bool.Decides.{nat_tests, eqb_tells}
use Rattle.std.proofs.lemmas.List.{length-append}
use Rattle.conn_log.specs.declared.entry.Want.{Want}
use Rattle.conn_log.specs.Waiting.{without}
use Rattle.conn_log.specs.Sound.{WaitOnce, IsNextAmong}

-- the transfer is one of theirs
abbrev pub is_waiting : List Want → ℕ → Bool
is_waiting wants transfer = list_any (λ (want : Want). want.transfer == transfer) wants

-- the others wait as before
pub waits_without : (transfer t : ℕ) (wants : List Want) → is_waiting (without transfer wants) t ≡ (not (transfer == t) && is_waiting wants t)
waits_without transfer t [] = grind arith
waits_without transfer t (want ∷ wants) = grind (arith, nat_tests, waits_without transfer t wants)

-- one more waits
pub waits_last : (want : Want) (t : ℕ) (wants : List Want) → is_waiting (wants ++ want ∷ []) t ≡ (is_waiting wants t || (want.transfer == t))
waits_last want t [] = grind arith
waits_last want t (x ∷ wants) = grind (arith, nat_tests, waits_last want t wants)

-- without one that does not wait all are left
pub without_stranger : (transfer : ℕ) (wants : List Want) → is_waiting wants transfer ≡ false → without transfer wants ≡ wants
without_stranger transfer [] out = refl
without_stranger transfer (x ∷ wants) out = grind (arith, nat_tests, out, λ (h : is_waiting wants transfer ≡ false). without_stranger transfer wants h)

-- one that is left out does not wait
pub left_out : (transfer : ℕ) (wants : List Want) → is_waiting (without transfer wants) transfer ≡ false
left_out transfer wants = waits_without transfer transfer wants ∙ grind (arith, nat_tests)

-- each waits once, with one taken out
without_swap : (s t : ℕ) (wants : List Want) → without s wants ≡ wants → without s (without t wants) ≡ without t wants
without_swap s t wants out =
    without_stranger s (without t wants) (waits_without t s wants ∙ grind (arith, ap (λ ws. is_waiting ws s) (sym out), left_out s wants))

pub once_without : (transfer : ℕ) (wants : List Want) → WaitOnce wants → WaitOnce (without transfer wants)
once_without transfer [] once = tt
once_without transfer (x ∷ wants) once = elim (eqb_tells x.transfer transfer) [
  | inl same ↦ rw same.0 (once_without transfer wants once.1)
  | inr other ↦ rw other.0 (without_swap x.transfer transfer wants once.0, once_without transfer wants once.1)
]

-- and with one more at the end
pub once_last : (want : Want) (wants : List Want) → WaitOnce wants → is_waiting wants want.transfer ≡ false → WaitOnce (wants ++ want ∷ [])
once_last want [] once new = (refl, tt)
once_last want (x ∷ wants) once new =
    let apart : (x.transfer == want.transfer) ≡ false = grind (arith, nat_tests, new) in
    let rest : is_waiting wants want.transfer ≡ false = grind (arith, nat_tests, new) in
    let out : is_waiting wants x.transfer ≡ false = ap (λ ws. is_waiting ws x.transfer) (sym once.0) ∙ left_out x.transfer wants in
    (without_stranger x.transfer (wants ++ want ∷ []) (waits_last want x.transfer wants ∙ grind (arith, nat_tests, out, apart)), once_last want wants once.1 rest)

-- the first one waits
pub first_waits : (want : Want) (wants : List Want) → is_waiting (want ∷ wants) want.transfer ≡ true
first_waits want wants = grind (arith, nat_tests)

-- after the start of the next one the others are left
pub without_next : (wants : List Want) (held : Option ℕ) (want : Want) → WaitOnce wants → IsNextAmong wants held want → without want.transfer wants ≡ drop 1 wants
without_next [] held want once next = refl
without_next (head ∷ wants) held want once next =
    let here : (head.transfer == want.transfer) ≡ true = grind (arith, nat_tests, ap (λ (w : Want). w.transfer) next) in
    rw here (ap (λ (w : Want). without w.transfer wants) next ∙ once.0)

-- one more waits at the end
pub length_last : (want : Want) (wants : List Want) → length (wants ++ want ∷ []) ≡ length wants + 1
length_last want wants = length-append wants (want ∷ [])

-- one that waited leaves one fewer
pub length_without : (transfer : ℕ) (wants : List Want) → WaitOnce wants → is_waiting wants transfer ≡ true → length wants ≡ length (without transfer wants) + 1
length_without transfer [] once waits = absurd (false≢true waits)
length_without transfer (x ∷ wants) once waits = elim (eqb_tells x.transfer transfer) [
  | inl same ↦ rw same.0 (omega (arith, ap length (sym (ap (λ (t : ℕ). without t wants) (sym same.1) ∙ once.0))))
  | inr other ↦
      let rest : is_waiting wants transfer ≡ true = grind (arith, nat_tests, waits, other.0) in
      rw other.0 (omega (arith, length_without transfer wants once.1 rest))
]
