-- What each transfer that waits wants.
use Rattle.std.proofs.Common.{◌≡◌, ℕ, ◌+◌, ◌*◌, ◌<◌, ◌≤◌, false, List, [], ◌∷◌, ◌++◌, length, drop, get_or, Option, Some, None, is_some, Result, Ok, OnOk, Bor, refl, sym, ap, subst, inl, inr, ◌∙◌, arith}
use Rattle.std.specs.Prelude.{◌==◌, if◌then◌else◌}
use Rattle.std.specs.Option.{IsSome, IfSome, option_copied}
use Rattle.std.proofs.lemmas.Bool.Decides.{nat_tests, eqb_tells}
use Rattle.conn_log.specs.declared.entry.Want.{Want}
use Rattle.conn_log.specs.Waiting.{without}
use Rattle.conn_log.specs.Sound.{WaitOnce, IsNextAmong}
use Rattle.conn_log.proofs.Queues.{is_waiting, left_out, without_next}
use Rattle.host_state.specs.Queue.{waiting_want}
use Rattle.host_state.specs.State.{booked_after_start}

-- a transfer waits where it is known what it wants
pub is_some-waiting_want : (t : ℕ) (wants : List Want) → is_some (waiting_want wants t) ≡ is_waiting wants t
is_some-waiting_want t [] = refl
is_some-waiting_want t (x ∷ wants) = grind (arith, nat_tests, is_some-waiting_want t wants)

pub waits_not : (t : ℕ) (wants : List Want) → waiting_want wants t ≡ None → is_waiting wants t ≡ false
waits_not t wants none = sym (is_some-waiting_want t wants) ∙ ap is_some none

pub no_want : (t : ℕ) (wants : List Want) → is_waiting wants t ≡ false → waiting_want wants t ≡ None
no_want t wants out = none_there (waiting_want wants t) (is_some-waiting_want t wants ∙ out)
  where
    none_there : (want : Option Want) → is_some want ≡ false → want ≡ None
    none_there None e = refl
    none_there (Some w) e = absurd (cc)

-- nobody waits where as many wait as none
pub nobody : (wants : List Want) → length wants ≡ 0 → wants ≡ []
nobody [] none = refl
nobody (x ∷ wants) none = absurd (omega (arith, none))

-- with one more
pub want_last : (want : Want) (t : ℕ) (wants : List Want) → waiting_want wants want.transfer ≡ None → waiting_want (wants ++ want ∷ []) t ≡ (if want.transfer == t then Some want else waiting_want wants t)
want_last want t [] new = refl
want_last want t (x ∷ wants) new = elim (eqb_tells x.transfer want.transfer) [
  | inl same ↦ absurd (none_some (rw same.0 at new))
  | inr other ↦
      let rest = want_last want t wants (rw other.0 at new) in
      grind (arith, nat_tests, rest, other.0)
]
  where
    none_some : Some x ≡ None → ⊥
    none_some e = absurd (cc)

-- with one taken out
pub want_without : (s t : ℕ) (wants : List Want) → waiting_want (without s wants) t ≡ (if s == t then None else waiting_want wants t)
want_without s t [] = grind arith
want_without s t (x ∷ wants) = grind (arith, nat_tests, want_without s t wants)

-- with the first one taken out
pub want_rest : (x : Want) (t : ℕ) (wants : List Want) → WaitOnce (x ∷ wants) → waiting_want wants t ≡ (if x.transfer == t then None else waiting_want (x ∷ wants) t)
want_rest x t wants once = elim (eqb_tells x.transfer t) [
  | inl same ↦ rw same.0 (subst (λ (n : ℕ). waiting_want wants n ≡ None) same.1 (no_want x.transfer wants (ap (λ ws. is_waiting ws x.transfer) (sym once.0) ∙ left_out x.transfer wants)))
  | inr other ↦ rw other.0 refl
]

-- what a table has at each transfer, after the same edit
pub table_last : (want : Want) (wants : List Want) (table after : ℕ → Option Want) → waiting_want wants want.transfer ≡ None → ((t : ℕ) → table t ≡ waiting_want wants t) → ((t : ℕ) → after t ≡ (if want.transfer == t then Some want else table t)) → (t : ℕ) → after t ≡ waiting_want (wants ++ want ∷ []) t
table_last want wants table after new kept put t = put t ∙ ap (λ (x : Option Want). if want.transfer == t then Some want else x) (kept t) ∙ sym (want_last want t wants new)

pub table_without : (s : ℕ) (wants : List Want) (table after : ℕ → Option Want) → ((t : ℕ) → table t ≡ waiting_want wants t) → ((t : ℕ) → after t ≡ (if s == t then None else table t)) → (t : ℕ) → after t ≡ waiting_want (without s wants) t
table_without s wants table after kept cut t = cut t ∙ ap (λ (x : Option Want). if s == t then None else x) (kept t) ∙ sym (want_without s t wants)

pub table_rest : (x : Want) (all wants : List Want) (table after : ℕ → Option Want) → WaitOnce all → all ≡ x ∷ wants → ((t : ℕ) → table t ≡ waiting_want all t) → ((t : ℕ) → after t ≡ (if x.transfer == t then None else table t)) → (t : ℕ) → after t ≡ waiting_want wants t
table_rest x all wants table after once is kept cut t = cut t ∙ ap (λ (y : Option Want). if x.transfer == t then None else y) (kept t ∙ ap (λ ws. waiting_want ws t) is) ∙ sym (want_rest x t wants (subst WaitOnce is once))

-- without the first one each waits once still
pub once_rest : (x : Want) (all wants : List Want) → all ≡ x ∷ wants → WaitOnce all → WaitOnce wants
once_rest x all wants is once = (subst WaitOnce is once).1

-- the first one of a list, as it was read
pub first_of : (items : List Want) (front : Option (Bor Want)) → (IsSome front → 0 < length items) → IfSome front (λ x. x.now ≡ get_or items 0 x.now) → IfSome (option_copied front) (λ want. (others : List Want) × (items ≡ want ∷ others))
first_of items None some read = tt
first_of [] (Some x) some read = absurd (omega (arith, some refl))
first_of (y ∷ items) (Some x) some read = (items, ap (λ (w : Want). w ∷ items) (sym read))

-- the queue once the next one has started
pub queue_started : (waiting old new : List Want) (held : Option ℕ) (want : Want) → WaitOnce waiting → IsNextAmong waiting held want → old ≡ waiting → new ≡ drop 1 old → new ≡ without want.transfer waiting
queue_started waiting old new held want once next is taken = taken ∙ ap (drop 1) is ∙ sym (without_next waiting held want once next)

-- what a start spends: one place of those that wait or are booked, with its entries
pub record IsSpent (len booked len_after booked_after : ℕ) : Type 0 where
  pub places : len_after + booked_after + 1 ≡ len + booked
  pub entries : 4 * booked_after + 3 * len_after + 3 ≤ 4 * booked + 3 * len
  pub fewer : booked_after ≤ booked

pub spent_on : (old new : List Want) (booked booked_after : ℕ) → (old ≡ [] → 0 < booked) → new ≡ drop 1 old → booked_after ≡ booked_after_start old booked → IsSpent (length old) booked (length new) booked_after
spent_on [] new booked booked_after had taken spent =
    let one : 0 < booked = had refl in
    let none : length new ≡ 0 = ap length taken in
    record { places = omega (arith, one, none, spent); entries = omega (arith, one, none, spent); fewer = omega (arith, one, none, spent) }
spent_on (x ∷ old) new booked booked_after had taken spent =
    let fewer : length new ≡ length old = ap length taken in
    record { places = omega (arith, fewer, spent); entries = omega (arith, fewer, spent); fewer = omega (arith, spent) }

-- what is told of a good result
pub ok_told : {A E P : Type 0} (r : Result A E) (x : A) → r ≡ Ok x → OnOk r P → P
ok_told {A} {E} {P} r x is told = subst (λ (q : Result A E). OnOk q P) is told
