-- How intervals are folded in place.
use Rattle.std.proofs.Common.{◌≡◌, ◌≢◌, ◌⊎◌, inl, inr, ℕ, ◌+◌, ◌-◌, ◌*◌, ◌<◌, ◌≤◌, List, ◌++◌, length, get_or, slice_set, refl, sym, ap, subst, ◌∙◌, arith, length-append, length-set, get_or-set_same, get_or-set_other}
use Rattle.std.specs.List.{SwappedAt}
use Rattle.std.proofs.Math.ListN.{get_or-append}
use Rattle.std.proofs.lemmas.List.{get_or-append_right}
use Rattle.load_figures.specs.Intervals.{IntervalCounts, both, interval_at, no_interval, IsFold, IsPairJoined}
use Rattle.load_figures.proofs.Places.{at-default, at-past, both-none}

-- so many pairs were joined: behind them are as many intervals without a job, and then the old ones
pub record HalfFolded (half : ℕ) (old now : List IntervalCounts) : Type 0 where
  pub as_many : length now ≡ length old
  pub joined : (k : ℕ) → k < half → interval_at now k ≡ both (interval_at old (2 * k)) (interval_at old (2 * k + 1))
  pub empty : (k : ℕ) → half ≤ k → k < 2 * half → interval_at now k ≡ no_interval
  pub rest : (k : ℕ) → 2 * half ≤ k → interval_at now k ≡ interval_at old k

pub none_folded : (old : List IntervalCounts) → HalfFolded 0 old old
none_folded old = record {
  as_many = refl;
  joined = λ k few. absurd (omega arith);
  empty = λ k past few. absurd (omega arith);
  rest = λ k past. refl;
}

order : (m n : ℕ) → (m < n) ⊎ (n ≤ m)
order m n = search arith

same_or : (m n : ℕ) → (m ≡ n) ⊎ (m ≢ n)
same_or m n = search arith

-- another place keeps its interval
kept : (half k : ℕ) (now paired swapped : List IntervalCounts) → IsPairJoined (2 * half) now paired → SwappedAt paired swapped half (2 * half)
    → k ≢ half → k ≢ 2 * half → k ≢ 2 * half + 1 → interval_at swapped k ≡ interval_at now k
kept half k now paired swapped pair swap first second third = swap.2 k no_interval first second ∙ pair.others k second third

-- the next pair is joined, and takes its place
pub one_more_folded : (half : ℕ) (old now paired swapped : List IntervalCounts) → HalfFolded half old now → IsPairJoined (2 * half) now paired
    → length swapped ≡ length paired → SwappedAt paired swapped half (2 * half) → HalfFolded (half + 1) old swapped
one_more_folded half old now paired swapped before pair as_many swap = record {
  as_many = as_many ∙ pair.as_many ∙ before.as_many;
  joined = λ k few. elim (order k half) [
    | inl less ↦ kept half k now paired swapped pair swap (omega arith) (omega arith) (omega arith) ∙ before.joined k less
    | inr past ↦
        let here : half ≡ k = omega arith in
        subst (λ (n : ℕ). interval_at swapped n ≡ both (interval_at old (2 * n)) (interval_at old (2 * n + 1))) here
        (swap.0 no_interval ∙ pair.joined ∙ ap (λ first. both first (interval_at now (2 * half + 1))) (before.rest (2 * half) (omega arith))
        ∙ ap (λ second. both (interval_at old (2 * half)) second) (before.rest (2 * half + 1) (omega arith)))
  ];
  empty = λ k past few. elim (same_or k (2 * half + 1)) [
    | inl last ↦
        ap (interval_at swapped) last
        ∙ swap.2 (2 * half + 1) no_interval (omega arith) (omega arith)
        ∙ pair.emptied
    | inr not_last ↦ elim (same_or k (2 * half)) [
      | inl moved ↦
          ap (interval_at swapped) moved
          ∙ swap.1 no_interval
          ∙ pair.others half (omega arith) (omega arith)
          ∙ before.empty half (omega arith) (omega arith)
      | inr not_moved ↦
          kept half k now paired swapped pair swap (omega arith) not_moved not_last
          ∙ before.empty k (omega arith) (omega arith)
    ]
  ];
  rest = λ k past. kept half k now paired swapped pair swap (omega arith) (omega arith) (omega arith) ∙ before.rest k (omega arith);
}

pub all_folded : (old now : List IntervalCounts) (half : ℕ) → length old ≡ 600 → half ≡ 300 → HalfFolded half old now → IsFold old now
all_folded old now half size is folded = record {
  as_many = folded.as_many;
  each = λ place. elim (order place half) [
    | inl less ↦ folded.joined place less
    | inr past ↦
        let none : both (interval_at old (2 * place)) (interval_at old (2 * place + 1)) ≡ no_interval =
        ap (λ first. both first (interval_at old (2 * place + 1))) (at-past old (2 * place) (omega arith))
        ∙ ap (λ second. both no_interval second) (at-past old (2 * place + 1) (omega arith))
        ∙ both-none in
        elim (order place 600) [
          | inl there ↦ folded.empty place past (omega arith) ∙ sym none
          | inr beyond ↦ at-past now place (omega (arith, folded.as_many)) ∙ sym none
        ]
  ];
}

-- the last interval of the front is joined with the first of the back
pub pair_joined : (place : ℕ) (old front back : List IntervalCounts) (one two : IntervalCounts) → old ≡ front ++ back → length front ≡ place + 1 → 0 < length back
    → IsPairJoined place old (slice_set front place (both (get_or front place one) (get_or back 0 two)) ++ slice_set back 0 no_interval)
pair_joined place old front back one two parts front_len back_len =
    let first : get_or front place one ≡ interval_at old place =
    at-default front place one (omega arith) ∙ sym (get_or-append front back no_interval place (omega arith)) ∙ ap (λ xs. interval_at xs place) (sym parts) in
    let second : get_or back 0 two ≡ interval_at old (place + 1) =
    at-default back 0 two back_len
    ∙ ap (interval_at back) {x = 0} {y = place + 1 - (place + 1)} (omega arith)
    ∙ sym (get_or-append_right front back (place + 1) (place + 1) no_interval front_len (omega arith))
    ∙ ap (λ xs. interval_at xs (place + 1)) (sym parts) in
    let pair : IntervalCounts = both (get_or front place one) (get_or back 0 two) in
    let new_front : List IntervalCounts = slice_set front place pair in
    let new_back : List IntervalCounts = slice_set back 0 no_interval in
    let new_len : length new_front ≡ place + 1 = length-set front place pair ∙ front_len in
    record {
      as_many =
          length-append new_front new_back
          ∙ omega (arith, length-set front place pair, length-set back 0 no_interval, length-append front back, ap (λ (xs : List IntervalCounts). length xs) parts);
      joined =
          get_or-append new_front new_back no_interval place (omega (arith, new_len))
          ∙ get_or-set_same front place pair no_interval (omega arith)
          ∙ ap (λ first. both first (get_or back 0 two)) first
          ∙ ap (λ second. both (interval_at old place) second) second;
      emptied =
          get_or-append_right new_front new_back (place + 1) (place + 1) no_interval new_len (omega arith)
          ∙ ap (interval_at new_back) {x = place + 1 - (place + 1)} {y = 0} (omega arith)
          ∙ get_or-set_same back 0 no_interval no_interval back_len;
      others = λ k not_first not_second. elim (order k (place + 1)) [
        | inl before ↦
            get_or-append new_front new_back no_interval k (omega (arith, new_len))
            ∙ get_or-set_other front place k pair no_interval not_first
            ∙ sym (get_or-append front back no_interval k (omega arith))
            ∙ ap (λ xs. interval_at xs k) (sym parts)
        | inr behind ↦
            get_or-append_right new_front new_back (place + 1) k no_interval new_len behind
            ∙ get_or-set_other back 0 (k - (place + 1)) no_interval no_interval (omega arith)
            ∙ sym (get_or-append_right front back (place + 1) k no_interval front_len behind)
            ∙ ap (λ xs. interval_at xs k) (sym parts)
      ];
    }
