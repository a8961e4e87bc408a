-- Each kind of step on the word keeps its rule.
use Rattle.std.proofs.Common.{◌≡◌, ℕ, zero, suc, ◌+◌, ◌%◌, ◌^◌, ◌<◌, ◌≤◌, ◌==◌, eq-eqb, List, [], ◌∷◌, ◌++◌, length, get_or, set, sym, refl, ap, ◌∙◌, subst, ⊎_elim, arith, length-set, length-append, get_or-set_same}
use Rattle.std.specs.Prelude.{nat_lt}
use Rattle.std.specs.List.{sum_by, All}
use Rattle.std.proofs.lemmas.List.Sums.{sum_by-cons, sum_by_push, sum_by-append, get_or-le-sum_by}
use Rattle.std.proofs.lemmas.List.{get_or_default}
use Rattle.std.proofs.lemmas.Bool.{cases_lt}
use Rattle.std.proofs.lemmas.Bool.Decides.{nat_tests}
use mathlib.Core.Option.{some, some-ne-none}
use lib.ListN.{get_elem?}
use Rattle.atomic_table.specs.Table.{keeps, Allows, Splits, Joins}
use Rattle.atomic_table.proofs.Lists.{at_set, at_snoc, at_index, set_again}
use Rattle.budget.proofs.Sums.{one_if, sum-set, sum-cut, sum-join, at-le-sum, only}
use Rattle.run_loop.specs.declared.job_draws.Drawing.{Drawing}
use Rattle.run_loop.specs.Draws.{times}
use Rattle.run_loop.specs.Rule.{with_job, with_past, less_one_unit, one_unit, both_drew, no_drawing, first_drawing, share_of, past_of, count_of, times_of, IsDrawing, AreDrawings, IsClaim, KeepsClaim, Sitter, DrawsNumber, ReadsAll}

-- where each view has no more of f than of g, all have no more
sum-le : {V : Type 0} (f g : V → ℕ) (views : List V) → ((seat : ℕ) (v : V) → get_elem? views seat ≡ some v → f v ≤ g v) → sum_by f views ≤ sum_by g views
sum-le f g [] each = omega arith
sum-le f g (x ∷ xs) each = omega (arith, each 0 x refl, sum-le f g xs (λ seat. each (suc seat)), sum_by-cons f x xs, sum_by-cons g x xs)

-- how often a number stands in a list

times_last : (k n : ℕ) (numbers : List ℕ) → times k (numbers ++ n ∷ []) ≡ times k numbers + one_if (k == n)
times_last k n numbers = sum_by_push (λ m. one_if (k == m)) numbers n

times_both : (k : ℕ) (numbers others : List ℕ) → times k (numbers ++ others) ≡ times k numbers + times k others
times_both k numbers others = sum_by-append (λ m. one_if (k == m)) numbers others

-- whether a number is below a count

one_more_below : (k n : ℕ) → one_if (nat_lt k n) + one_if (k == n) ≡ one_if (nat_lt k (n + 1))
one_more_below k n = grind (arith, nat_tests)

below_count : (n m : ℕ) → 1 ≤ one_if (nat_lt n m) → n < m
below_count n m e = grind (arith, nat_tests)

not_below : (n m : ℕ) → m ≤ n → one_if (nat_lt n m) ≡ 0
not_below n m e = grind (arith, nat_tests)

below_same : (k n m : ℕ) → n ≡ m → one_if (nat_lt k n) ≡ one_if (nat_lt k m)
below_same k n m e = ap (λ count. one_if (nat_lt k count)) e

-- the word is the jobs drawn and the numbers past them

none_past : (word count past jobs : ℕ) → word ≡ count + past → (0 < past → count ≡ jobs) → word < jobs → past ≡ 0
none_past word count zero jobs counted all left = refl
none_past word count (suc past) jobs counted all left = absurd (omega (arith, all (omega arith)))

all_drawn : (word count past jobs : ℕ) → word ≡ count + past → count ≤ jobs → (0 < past → count ≡ jobs) → jobs ≤ word → count ≡ jobs
all_drawn word count zero jobs counted within all beyond = omega arith
all_drawn word count (suc past) jobs counted within all beyond = all (omega arith)

-- what holds of each view holds after a change

each_set : (jobs : ℕ) (views : List Drawing) (seat : ℕ) (w : Drawing) → AreDrawings jobs views → IsDrawing jobs w → AreDrawings jobs (set views seat w)
each_set jobs views seat w each new k v at = ⊎_elim (λ here. subst (IsDrawing jobs) here.1 new) (λ apart. each k v apart.1) (at_set views seat k w v at)

each_snoc : (jobs : ℕ) (views : List Drawing) (w : Drawing) → AreDrawings jobs views → IsDrawing jobs w → AreDrawings jobs (views ++ w ∷ [])
each_snoc jobs views w each new k v at = ⊎_elim (λ old. each k v old) (λ is. subst (IsDrawing jobs) is new) (at_snoc views w v k at)

pub begins : (jobs : ℕ) → IsClaim jobs (0 ∷ []) (first_drawing jobs ∷ [])
begins jobs = record {
  one_word = refl;
  counted = refl;
  once = λ number. sym (not_below number 0 (omega arith));
  within = omega arith;
  all = λ some_past. absurd (omega arith);
  shares = refl;
  seats = each_snoc jobs [] (first_drawing jobs) (λ k v at. absurd (some-ne-none v (sym at))) (record { same_jobs = λ _. refl; nothing = λ _. refl; within = omega arith });
}

module _ (jobs : ℕ) (words : List ℕ) (views : List Drawing) (rule : IsClaim jobs words views) where
  -- numbers past the jobs are no more than the whole
  past_fits : sum_by past_of views ≤ 65536
  past_fits = omega (arith, rule.shares, sum-le past_of share_of views (λ k w there. (rule.seats k w there).within))

  -- the word may be written again
  word_again : set words 0 (get_or words 0 0) ≡ words
  word_again = set_again words 0 (get_or words 0 0) (at_index words 0 (get_or words 0 0) (omega (arith, rule.one_word)) (get_or_default words 0 0 (get_or words 0 0) (omega (arith, rule.one_word))))

  -- the seats may change in a way that leaves the sums
  same_sums : (others : List Drawing) → sum_by count_of views ≡ sum_by count_of others → sum_by past_of views ≡ sum_by past_of others → sum_by share_of views ≡ sum_by share_of others
      → ((k : ℕ) → sum_by (times_of k) views ≡ sum_by (times_of k) others) → AreDrawings jobs others → IsClaim jobs words others
  same_sums others count past share drawn each = record {
    one_word = rule.one_word;
    counted = omega (arith, rule.counted);
    once = λ k. sym (drawn k) ∙ rule.once k ∙ below_same k _ _ count;
    within = omega (arith, rule.within);
    all = λ some_past. sym count ∙ rule.all (omega arith);
    shares = sym share ∙ rule.shares;
    seats = each;
  }

  module _ (seat : ℕ) (v : Drawing) (at : get_elem? views seat ≡ some v) where
    -- the next number is above all that were drawn
    above : All (λ number. number < get_or words 0 0) v.drawn
    above k d there =
        let number : ℕ = get_or v.drawn k d in
        let stands = get_or-le-sum_by (λ n. one_if (number == n)) v.drawn k d there in
        let itself : one_if (number == number) ≡ 1 = ap one_if (eq-eqb number number refl) in
        let part = at-le-sum (times_of number) views seat v at in
        let below = below_count number (sum_by count_of views) (omega (arith, stands, itself, part, rule.once number)) in
        omega (arith, below, rule.counted)

    job_drawn : get_or words 0 0 < jobs → 0 < v.share → IsClaim jobs (set words 0 (get_or words 0 0 + 1)) (set views seat (with_job (get_or words 0 0) v))
    job_drawn left some_share =
        let n : ℕ = get_or words 0 0 in
        let w : Drawing = with_job n v in
        let mine = rule.seats seat v at in
        let past : sum_by past_of views ≡ 0 = none_past n (sum_by count_of views) (sum_by past_of views) jobs rule.counted rule.all left in
        let drawn : sum_by count_of views ≡ n = omega (arith, rule.counted) in
        let one_more : sum_by count_of (set views seat w) ≡ n + 1 = omega (arith, sum-set count_of views seat v w at, length-append v.drawn (n ∷ [])) in
        let still : sum_by past_of (set views seat w) ≡ 0 = omega (arith, sum-set past_of views seat v w at) in
        let read : get_or (set words 0 (n + 1)) 0 0 ≡ n + 1 = get_or-set_same words 0 (n + 1) 0 (omega (arith, rule.one_word)) in
        record {
          one_word = length-set words 0 (n + 1) ∙ rule.one_word;
          counted = omega (arith, read, one_more, still);
          once = λ k. omega (arith, sum-set (times_of k) views seat v w at, times_last k n v.drawn, rule.once k, below_same k _ _ drawn, one_more_below k n, below_same k _ _ one_more);
          within = omega arith;
          all = λ some_past. absurd (omega arith);
          shares = omega (arith, sum-set share_of views seat v w at, rule.shares);
          seats = each_set jobs views seat w rule.seats (record { same_jobs = mine.same_jobs; nothing = λ none. absurd (omega arith); within = mine.within });
        }

    past_drawn : jobs ≤ get_or words 0 0 → v.past < v.share → IsClaim jobs (set words 0 (get_or words 0 0 + 1)) (set views seat (with_past v))
    past_drawn beyond room =
        let n : ℕ = get_or words 0 0 in
        let w : Drawing = with_past v in
        let mine = rule.seats seat v at in
        let drawn : sum_by count_of views ≡ jobs = all_drawn n (sum_by count_of views) (sum_by past_of views) jobs rule.counted rule.within rule.all beyond in
        let same : sum_by count_of (set views seat w) ≡ sum_by count_of views = omega (arith, sum-set count_of views seat v w at) in
        let read : get_or (set words 0 (n + 1)) 0 0 ≡ n + 1 = get_or-set_same words 0 (n + 1) 0 (omega (arith, rule.one_word)) in
        record {
          one_word = length-set words 0 (n + 1) ∙ rule.one_word;
          counted = omega (arith, read, same, rule.counted, sum-set past_of views seat v w at);
          once = λ k. omega (arith, sum-set (times_of k) views seat v w at, rule.once k, below_same k _ _ same);
          within = omega arith;
          all = λ _. same ∙ drawn;
          shares = omega (arith, sum-set share_of views seat v w at, rule.shares);
          seats = each_set jobs views seat w rule.seats (record { same_jobs = mine.same_jobs; nothing = λ none. absurd (omega arith); within = omega arith });
        }

pub draws : (slots jobs seat : ℕ) (me : Sitter) → jobs < 2 ^ 63 → 0 < me.0.share → me.0.past ≡ 0 → Allows (KeepsClaim jobs) slots seat me 0 (λ n. (n + 1) % 2 ^ 64) (DrawsNumber me)
draws slots jobs seat me fits some_share not_past s rule len at small =
    let n : ℕ = get_or s.words 0 0 in
    let own : me.0.jobs ≡ jobs = (rule.seats seat me.0 at).same_jobs some_share in
    let few = past_fits jobs s.words s.views rule in
    let room : jobs < 9223372036854775808 = fits in
    let more : n + 1 ≡ (n + 1) % 18446744073709551616 = omega (arith, rule.counted, rule.within) in
    let below = above jobs s.words s.views rule seat me.0 at in
    let Goal : ℕ → Type 0 = λ m. (w : Drawing) × IsClaim jobs (set s.words 0 m) (set s.views seat w) × DrawsNumber me n (w, me.1) in
    let drawn : Goal (n + 1) = ⊎_elim
    (λ left. (
      with_job n me.0,
      job_drawn jobs s.words s.views rule seat me.0 at left some_share,
      record { job = λ _. refl; past = λ beyond. absurd (omega arith); above = below },
    ))
    (λ beyond. (
      with_past me.0,
      past_drawn jobs s.words s.views rule seat me.0 at beyond (omega arith),
      record { job = λ left. absurd (omega arith); past = λ _. refl; above = below },
    ))
    (cases_lt n jobs) in
    let step : Goal ((n + 1) % 18446744073709551616) = subst Goal more drawn in
    (step.0, keeps, tt, step.1, step.2)

pub reads_all : (slots jobs seat : ℕ) (me : Sitter) → me.0.share ≡ 65536 → Allows (KeepsClaim jobs) slots seat me 0 (λ n. n) (ReadsAll me)
reads_all slots jobs seat me whole s rule len at small =
    let all = rule.shares ∙ sym whole in
    let own : me.0.jobs ≡ jobs = (rule.seats seat me.0 at).same_jobs (omega arith) in
    let count = only share_of count_of s.views seat me.0 at (λ k w there none. ap length ((rule.seats k w there).nothing none)) all in
    let past = only share_of past_of s.views seat me.0 at (λ k w there none. omega (arith, (rule.seats k w there).within)) all in
    let kept : IsClaim jobs (set s.words 0 (get_or s.words 0 0)) (set s.views seat me.0) =
    subst (λ (z : List ℕ × List Drawing). IsClaim jobs z.0 z.1) (λ i. (sym (word_again jobs s.words s.views rule) i, sym (set_again s.views seat me.0 at) i)) rule in (
      me.0,
      keeps,
      tt,
      kept,
      record {
        same = refl;
        word = omega (arith, rule.counted);
        once = λ k. sym (only share_of (times_of k) s.views seat me.0 at (λ other w there none. ap (times k) ((rule.seats other w there).nothing none)) all) ∙ rule.once k ∙ below_same k _ _ count;
        within = omega (arith, rule.within);
        all = λ some_past. sym count ∙ rule.all (omega arith) ∙ sym own;
      },
    )

pub splits : (jobs seat : ℕ) (v : Drawing) → 2 ≤ v.share → v.past < v.share → Splits {S = Unit {0}} (KeepsClaim jobs) seat v (less_one_unit v) (one_unit v)
splits jobs seat v units room s rule at =
    let w : Drawing = less_one_unit v in
    let new : Drawing = one_unit v in
    let mine = rule.seats seat v at in
    let left : List Drawing = set s.views seat w in
    same_sums jobs s.words s.views rule (left ++ new ∷ [])
    (sum-cut count_of s.views seat v w new at (omega arith))
    (sum-cut past_of s.views seat v w new at (omega arith))
    (sum-cut share_of s.views seat v w new at (omega arith))
    (λ k. sum-cut (times_of k) s.views seat v w new at (omega arith))
    (
    each_snoc
    jobs
    left
    new
    (each_set jobs s.views seat w rule.seats (record { same_jobs = λ _. mine.same_jobs (omega arith); nothing = λ none. absurd (omega arith); within = omega arith }))
    (record { same_jobs = λ _. mine.same_jobs (omega arith); nothing = λ _. refl; within = omega arith })
    )

pub joins : (jobs seat : ℕ) (v : Drawing) (other : ℕ) (u : Drawing) → 0 < v.share → Joins {S = Unit {0}} (KeepsClaim jobs) seat v other u (both_drew v u) no_drawing
joins jobs seat v other u some_share s rule at apart there =
    let w : Drawing = both_drew v u in
    let both : List Drawing = set s.views seat w in
    let mine = rule.seats seat v at in
    let before : get_elem? s.views other ≡ some u = ⊎_elim (λ here. absurd (apart here.0)) (λ else. else.1) (at_set s.views seat other w u there) in
    let others = rule.seats other u before in
    same_sums jobs s.words s.views rule (set both other no_drawing)
    (sum-join count_of s.views seat v other u w no_drawing at there (omega (arith, length-append v.drawn u.drawn)))
    (sum-join past_of s.views seat v other u w no_drawing at there (omega arith))
    (sum-join share_of s.views seat v other u w no_drawing at there (omega arith))
    (λ k. sum-join (times_of k) s.views seat v other u w no_drawing at there (omega (arith, times_both k v.drawn u.drawn)))
    (
    each_set
    jobs
    both
    other
    no_drawing
    (each_set jobs s.views seat w rule.seats (record { same_jobs = λ _. mine.same_jobs some_share; nothing = λ none. absurd (omega arith); within = omega (arith, mine.within, others.within) }))
    (record { same_jobs = λ some. absurd (omega arith); nothing = λ _. refl; within = omega arith })
    )
