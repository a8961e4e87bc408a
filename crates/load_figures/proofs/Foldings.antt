-- How often intervals are folded.
use Rattle.std.proofs.Common.{◌≡◌, ◌⊎◌, inl, inr, ℕ, zero, suc, ◌*◌, ◌/◌, ◌^◌, ◌<◌, ◌≤◌, Bool, Option, refl, sym, ap, subst, ◌∙◌, arith}
use Rattle.load_figures.specs.Intervals.{IntervalLine, folded, folded_times, interval_at, joined_first, with_interval, with_job, CountsJob, JoinsLine}

order : (m n : ℕ) → (m < n) ⊎ (n ≤ m)
order m n = search arith

-- folded so many times, each time since the end came too late
pub record FoldedFor (ended : ℕ) (old now : IntervalLine) : Type 0 where
  pub foldings : ℕ
  pub is : now ≡ folded_times foldings old
  pub needed : (times : ℕ) → times < foldings → 600 ≤ ended / (folded_times times old).length_us

pub not_folded_for : (ended : ℕ) (old : IntervalLine) → FoldedFor ended old old
not_folded_for ended old = record { foldings = 0; is = refl; needed = λ times few. absurd (omega arith) }

pub folded_for_more : (ended : ℕ) (old now new : IntervalLine) → FoldedFor ended old now → 600 ≤ ended / now.length_us → new ≡ folded now → FoldedFor ended old new
folded_for_more ended old now new before late new_is = record {
  foldings = suc before.foldings;
  is = new_is ∙ ap folded before.is;
  needed = λ times few. elim (order times before.foldings) [
    | inl less ↦ before.needed times less
    | inr past ↦
        let here : before.foldings ≡ times = omega arith in
        subst (λ (n : ℕ). 600 ≤ ended / (folded_times n old).length_us) here
        (subst (λ (line : IntervalLine). 600 ≤ ended / line.length_us) before.is late)
  ];
}

pub counts_job : (has_failed : Bool) (ended : ℕ) (latency : Option ℕ) (old now new : IntervalLine) → FoldedFor ended old now → ended / now.length_us < 600
    → new ≡ with_interval (ended / now.length_us) (with_job has_failed latency (interval_at now.items (ended / now.length_us))) now → CountsJob has_failed ended latency old new
counts_job has_failed ended latency old now new folds there new_is = record {
  foldings = folds.foldings;
  needed = folds.needed;
  enough = subst (λ (line : IntervalLine). ended / line.length_us < 600) folds.is there;
  counted = new_is ∙ ap (λ (line : IntervalLine). with_interval (ended / line.length_us) (with_job has_failed latency (interval_at line.items (ended / line.length_us))) line) folds.is;
}

-- folded so many times, each time since the other's intervals were longer
pub record FoldedUpTo (length_us : ℕ) (old now : IntervalLine) : Type 0 where
  pub foldings : ℕ
  pub is : now ≡ folded_times foldings old
  pub needed : (times : ℕ) → times < foldings → (folded_times times old).length_us < length_us

pub not_folded_up_to : (length_us : ℕ) (old : IntervalLine) → FoldedUpTo length_us old old
not_folded_up_to length_us old = record { foldings = 0; is = refl; needed = λ times few. absurd (omega arith) }

pub folded_up_to_more : (length_us : ℕ) (old now new : IntervalLine) → FoldedUpTo length_us old now → now.length_us < length_us → new ≡ folded now → FoldedUpTo length_us old new
folded_up_to_more length_us old now new before short new_is = record {
  foldings = suc before.foldings;
  is = new_is ∙ ap folded before.is;
  needed = λ times few. elim (order times before.foldings) [
    | inl less ↦ before.needed times less
    | inr past ↦
        let here : before.foldings ≡ times = omega arith in
        subst (λ (n : ℕ). (folded_times n old).length_us < length_us) here
        (subst (λ (line : IntervalLine). line.length_us < length_us) before.is short)
  ];
}

-- joined intervals are as long as before
pub length-joined_first : (first : ℕ) (other line : IntervalLine) → (joined_first first other line).length_us ≡ line.length_us
length-joined_first zero other line = refl
length-joined_first (suc first) other line = length-joined_first first other line

-- so many intervals of the other were joined
pub record JoinedSoFar (first : ℕ) (other old now : IntervalLine) : Type 0 where
  pub foldings : ℕ
  pub needed : (times : ℕ) → times < foldings → (folded_times times old).length_us < other.length_us
  pub enough : other.length_us ≤ (folded_times foldings old).length_us
  pub is : now ≡ joined_first first other (folded_times foldings old)

-- they are no shorter than the other's
pub joined_as_long : (first : ℕ) (other old now : IntervalLine) → JoinedSoFar first other old now → other.length_us ≤ now.length_us
joined_as_long first other old now so_far =
    let length_is : now.length_us ≡ (folded_times so_far.foldings old).length_us =
    ap (λ (line : IntervalLine). line.length_us) so_far.is ∙ length-joined_first first other (folded_times so_far.foldings old) in
    omega (arith, length_is, so_far.enough)

pub joins_line : (first : ℕ) (other old now : IntervalLine) → first ≡ 600 → JoinedSoFar first other old now → JoinsLine old other now
joins_line first other old now all so_far = record {
  foldings = so_far.foldings;
  needed = so_far.needed;
  enough = so_far.enough;
  joined = so_far.is ∙ ap (λ n. joined_first n other (folded_times so_far.foldings old)) all;
}

-- what is 600 times too late is so many fewer times too late for intervals twice as long
halves : (ended length_us : ℕ) → 0 < length_us → 600 ≤ ended / length_us → ended / (length_us * 2) < ended / length_us
halves ended length_us some late = grind arith

within : (ended length_us : ℕ) → 0 < length_us → 600 ≤ ended / length_us → ended < 2 ^ 64 → length_us * 2 < 2 ^ 64
within ended length_us some late fits = grind arith

-- foldings come to an end
pub folding_ends : (ended length_us : ℕ) (now new : IntervalLine) → length_us ≡ now.length_us → 100000 ≤ length_us → 600 ≤ ended / length_us → ended < 2 ^ 64
    → new ≡ folded now → ended / new.length_us < ended / now.length_us
folding_ends ended length_us now new is long late fits new_is =
    let twice : new.length_us ≡ length_us * 2 =
    ap (λ (line : IntervalLine). line.length_us) new_is ∙ omega (arith, is, within ended length_us (omega arith) late fits) in
    subst (λ (n : ℕ). ended / n < ended / now.length_us) (sym twice)
    (subst (λ (n : ℕ). ended / (length_us * 2) < ended / n) is (halves ended length_us (omega arith) late))
