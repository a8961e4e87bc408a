use Rattle.std.proofs.Common.{◌≡◌, slice_index, slice_set, sym, ap, ◌∙◌, add-one, arith}
use Rattle.load_figures.proofs.Lists.{each_up_to, each_up_to-all, each_up_to-here, each_up_to-more}
use Rattle.load_figures.specs.Intervals.{capped_slices}
use Rattle.load_figures.proofs.interval.add_slices.Goals as goal

pub loop-place-preserved : goal.loop-place-preserved
loop-place-preserved c =
    let old : slice_index c.loop-place.slices c.loop-place.place ≡ slice_index c.args.slices.now c.loop-place.place =
    ap (λ xs. slice_index xs c.loop-place.place) c.loop-place.invariant ∙ each_up_to-here c.loop-place.place capped_slices c.args.slices.now c.args.others.now 0 in
    ap (λ n. slice_set c.loop-place.slices c.loop-place.place n) c.saturating_add.ensures
    ∙ ap (λ xs. slice_set xs c.loop-place.place (capped_slices (slice_index c.loop-place.slices c.loop-place.place) (slice_index c.args.others.now c.loop-place.place))) c.loop-place.invariant
    ∙ ap (λ n. slice_set (each_up_to c.loop-place.place capped_slices c.args.slices.now c.args.others.now) c.loop-place.place (capped_slices n (slice_index c.args.others.now c.loop-place.place))) old
    ∙ each_up_to-more c.loop-place.place capped_slices c.args.slices.now c.args.others.now 0 0 (omega (arith, c.requires)) (omega arith)
    ∙ ap (λ n. each_up_to n capped_slices c.args.slices.now c.args.others.now) (sym (add-one c.loop-place.place))

pub returns : goal.returns
returns c =
    c.loop-place.invariant
    ∙ ap (λ n. each_up_to n capped_slices c.args.slices.now c.args.others.now) (omega arith)
    ∙ each_up_to-all capped_slices c.args.slices.now c.args.others.now
