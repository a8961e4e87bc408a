-- What a call closes it closes in order, the one idle for the longest first.
use Rattle.std.proofs.Common.{◌≡◌, ℕ, zero, suc, ◌-◌, Bool, true, false, ◌||◌, List, [], ◌∷◌, ◌++◌, length, take, refl, sym, ap, subst, inl, inr, ◌∙◌, arith}
use Rattle.std.specs.Prelude.{◌==◌, ◌⊎◌}
use mathlib.Core.Bool.{false≢true}
use Rattle.std.proofs.lemmas.Bool.Decides.{nat_tests}
use Rattle.conn_log.specs.declared.entry.Cause.{Cause}
use Rattle.conn_log.specs.declared.entry.Event.TheVariants.{Closed}
use Rattle.conn_log.specs.declared.entry.Entry.{Entry}
use Rattle.conn_log.specs.Connections.{is_among, opened, is_closed, open_connections, born, since}
use Rattle.conn_log.specs.Fit.{is_older, is_idle_longer, is_too_old_in_lane, idle_in_order}
use Rattle.conn_log.specs.Sound.{AreDistinct}
use Rattle.conn_log.proofs.CountSums.{legal_distinct}
use Rattle.conn_log.proofs.Extremes.{came_back_before}
use Rattle.conn_log.proofs.Order.{idle_is_in_order}
use Rattle.conn_log.proofs.Sorted.{IsInOrder, in_order-filter}
use Rattle.host_state.specs.Steps.{add, close_each, cause_of, picked}
use Rattle.host_state.specs.declared.closing.Closing.{Closing}
use Rattle.host_state.specs.declared.closing.Closing.TheVariants.{TooOld, Pruned, Above}
use Rattle.host_state.specs.ClosingOrder.{ClosingsCloseTheOldestFirst}

module _ (goes_before : ℕ → ℕ → Bool) where
  -- the front of an order is in order
  among_front : (n : ℕ) (numbers : List ℕ) (d : ℕ) → is_among d (take n numbers) ≡ true → is_among d numbers ≡ true
  among_front zero numbers d there = absurd (false≢true there)
  among_front (suc n) [] d there = there
  among_front (suc n) (c ∷ numbers) d there = grind (arith, nat_tests, there, among_front n numbers d)

  front_in_order : (n : ℕ) (numbers : List ℕ) → IsInOrder goes_before numbers → IsInOrder goes_before (take n numbers)
  front_in_order zero numbers ordered = tt
  front_in_order (suc n) [] ordered = tt
  front_in_order (suc n) (c ∷ numbers) ordered = (λ d there. ordered.0 d (among_front n numbers d there), front_in_order n numbers ordered.1)

  -- what stands in the front goes before what stands in the rest
  among_rest : (first rest : List ℕ) (d : ℕ) → is_among d rest ≡ true → is_among d (first ++ rest) ≡ true
  among_rest [] rest d there = there
  among_rest (x ∷ first) rest d there = grind (arith, among_rest first rest d there)

  across : (first rest : List ℕ) (c d : ℕ) → IsInOrder goes_before (first ++ rest) → is_among c first ≡ true → is_among d rest ≡ true → goes_before c d ≡ true
  across [] rest c d ordered in_first in_rest = absurd (false≢true in_first)
  across (x ∷ first) rest c d ordered in_first in_rest = by_test (x == c) refl (λ there. across first rest c d ordered.1 there in_rest)
    where
      by_test : (b : Bool) → (x == c) ≡ b → (is_among c first ≡ true → goes_before c d ≡ true) → goes_before c d ≡ true
      by_test true here later = subst (λ (n : ℕ). goes_before n d ≡ true) (grind (arith, nat_tests, here)) (ordered.0 d (among_rest first rest d in_rest))
      by_test false other later = later (grind (arith, in_first, other))

-- what a closing picks is in order
picked_in_order : (closing : Closing) (moment : ℕ) (log : List Entry) → AreDistinct (opened log) → IsInOrder (is_idle_longer log) (picked closing moment log)
picked_in_order (TooOld want) moment log distinct = in_order-filter (is_idle_longer log) (is_too_old_in_lane log want moment) (idle_in_order log) (idle_is_in_order log distinct)
picked_in_order (Pruned max_age max_life) moment log distinct = in_order-filter (is_idle_longer log) (λ c. is_older (since log c) (born log c) max_age max_life moment) (idle_in_order log) (idle_is_in_order log distinct)
picked_in_order (Above limit) moment log distinct = front_in_order (is_idle_longer log) (length (open_connections log) - limit) (idle_in_order log) (idle_is_in_order log distinct)

-- closed once each of some is closed: it is one of them, or was closed
closed_each : (cause : Cause) (moment : ℕ) (numbers : List ℕ) (log : List Entry) (d : ℕ) → is_closed (close_each cause moment numbers log) d ≡ (is_among d numbers || is_closed log d)
closed_each cause moment [] log d = refl
closed_each cause moment (c ∷ numbers) log d = closed_each cause moment numbers (add moment (Closed c cause) log) d ∙ turned (is_among d numbers) (c == d) (is_closed log d)
  where
    turned : (a b x : Bool) → (a || (b || x)) ≡ ((b || a) || x)
    turned a b x = grind arith

still_closed : (newer older : List Entry) (c : ℕ) → is_closed older c ≡ true → is_closed (newer ++ older) c ≡ true
still_closed [] older c closed = closed
still_closed (e ∷ newer) older c closed = grind (arith, still_closed newer older c closed)

-- a place in the log that closing leaves: some of them are closed by then, or none is
record IsHalfway (cause : Cause) (moment : ℕ) (numbers : List ℕ) (log older : List Entry) : Type 0 where
  first : List ℕ
  rest : List ℕ
  all : numbers ≡ first ++ rest
  so_far : older ≡ close_each cause moment first log

record IsBefore (log older : List Entry) : Type 0 where
  between : List Entry
  log_is : log ≡ between ++ older

abbrev tail_of : List Entry → List Entry
tail_of [] = []
tail_of (e ∷ entries) = entries

place_in : (cause : Cause) (moment : ℕ) (numbers : List ℕ) (log newer older : List Entry) → close_each cause moment numbers log ≡ newer ++ older → IsHalfway cause moment numbers log older ⊎ IsBefore log older
place_in cause moment [] log newer older is = inr (record { between = newer; log_is = is })
place_in cause moment (c ∷ numbers) log newer older is = elim (place_in cause moment numbers (add moment (Closed c cause) log) newer older is) [
  | inl halfway ↦ inl (record { first = c ∷ halfway.first; rest = halfway.rest; all = ap (λ (ns : List ℕ). c ∷ ns) halfway.all; so_far = halfway.so_far })
  | inr early ↦ by_between early.between early.log_is
]
  where
    by_between : (between : List Entry) → add moment (Closed c cause) log ≡ between ++ older → IsHalfway cause moment (c ∷ numbers) log older ⊎ IsBefore log older
    by_between [] here = inl (record { first = c ∷ []; rest = numbers; all = refl; so_far = sym here })
    by_between (e ∷ between) earlier = inr (record { between = between; log_is = ap tail_of earlier })

-- one of two is closed by then, and the other is not
module _ (cause : Cause) (moment : ℕ) (log : List Entry) (first rest : List ℕ) where
  in_first : (c : ℕ) → is_closed log c ≡ false → is_closed (close_each cause moment first log) c ≡ true → is_among c first ≡ true
  in_first c open_before closed = grind (arith, closed_each cause moment first log c, open_before, closed)

  among_either : (d : ℕ) (xs ys : List ℕ) → is_among d (xs ++ ys) ≡ (is_among d xs || is_among d ys)
  among_either d [] ys = refl
  among_either d (x ∷ xs) ys = grind (arith, among_either d xs ys)

  in_rest : (d : ℕ) → is_closed (close_each cause moment first log) d ≡ false → is_closed (close_each cause moment (first ++ rest) log) d ≡ true → is_among d rest ≡ true
  in_rest d open_still closed = grind (arith, closed_each cause moment first log d, closed_each cause moment (first ++ rest) log d, among_either d first rest, open_still, closed)

pub oldest_closed_first : ClosingsCloseTheOldestFirst
oldest_closed_first settings closing moment log newer older c d legal is one other =
    let cause = cause_of closing in
    let numbers = picked closing moment log in
    elim (place_in cause moment numbers log newer older is) [
      | inr early ↦ absurd (false≢true (sym one.before ∙ ap (λ (l : List Entry). is_closed l c) early.log_is ∙ still_closed early.between older c one.after))
      | inl halfway ↦
          let first = halfway.first in
          let rest = halfway.rest in
          let ordered : IsInOrder (is_idle_longer log) (first ++ rest) = subst (λ (ns : List ℕ). IsInOrder (is_idle_longer log) ns) halfway.all (picked_in_order closing moment log (legal_distinct settings log legal)) in
          let c_first = in_first cause moment log first rest c one.before (ap (λ (l : List Entry). is_closed l c) (sym halfway.so_far) ∙ one.after) in
          let whole : close_each cause moment (first ++ rest) log ≡ newer ++ older = ap (λ (ns : List ℕ). close_each cause moment ns log) (sym halfway.all) ∙ is in
          let d_rest = in_rest cause moment log first rest d (ap (λ (l : List Entry). is_closed l d) (sym halfway.so_far) ∙ other.before) (ap (λ (l : List Entry). is_closed l d) whole ∙ other.after) in
          came_back_before log c d (across (is_idle_longer log) first rest c d ordered c_first d_rest)
    ]
