use Rattle.std.proofs.Common.{◌≡◌, ℕ, ◌+◌, length, slice_index, slice_set, refl, sym, ap, ◌∙◌, add-one, arith}
use Rattle.std.proofs.lemmas.List.Sums.{get_or-le-sum_by}
use Rattle.load_figures.proofs.CountLemmas.{sums_up_to, sums_up_to-all, sums_up_to-here, sums_up_to-more}
use Rattle.load_figures.proofs.histogram.add_counts.Goals as goal

pub overflow_add-counts : goal.overflow_add-counts
overflow_add-counts c =
    let old : slice_index c.loop-place.counts c.loop-place.place ≡ slice_index c.args.counts.now c.loop-place.place =
    ap (λ xs. slice_index xs c.loop-place.place) c.loop-place.invariant ∙ sums_up_to-here c.loop-place.place c.args.counts.now c.args.others.now in
    omega (
      arith,
      old,
      c.requires.size,
      c.requires.fit,
      get_or-le-sum_by (λ (n : ℕ). n) c.args.counts.now c.loop-place.place 0 (omega (arith, c.requires.size)),
      get_or-le-sum_by (λ (n : ℕ). n) c.args.others.now c.loop-place.place 0 (omega arith),
    )

pub loop-place-preserved : goal.loop-place-preserved
loop-place-preserved c =
    let old : slice_index c.loop-place.counts c.loop-place.place ≡ slice_index c.args.counts.now c.loop-place.place =
    ap (λ xs. slice_index xs c.loop-place.place) c.loop-place.invariant ∙ sums_up_to-here c.loop-place.place c.args.counts.now c.args.others.now in
    ap (λ xs. slice_set xs c.loop-place.place (slice_index c.loop-place.counts c.loop-place.place + slice_index c.args.others.now c.loop-place.place)) c.loop-place.invariant
    ∙ ap (λ n. slice_set (sums_up_to c.loop-place.place c.args.counts.now c.args.others.now) c.loop-place.place (n + slice_index c.args.others.now c.loop-place.place)) old
    ∙ sums_up_to-more c.loop-place.place c.args.counts.now c.args.others.now (omega (arith, c.requires.size)) (omega arith)
    ∙ ap (λ n. sums_up_to n c.args.counts.now c.args.others.now) (sym (add-one c.loop-place.place))

pub returns : goal.returns
returns c =
    c.loop-place.invariant
    ∙ ap (λ n. sums_up_to n c.args.counts.now c.args.others.now) (omega arith)
    ∙ sums_up_to-all (length c.args.others.now) c.args.counts.now c.args.others.now c.requires.size refl
