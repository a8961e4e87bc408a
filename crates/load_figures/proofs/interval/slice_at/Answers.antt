use Rattle.std.proofs.Common.{◌≡◌, ℕ, suc, ◌+◌, sum, take, get_or, ap, add-one, arith, sym}
use Rattle.std.proofs.lemmas.List.Sums.{sum_by_more}
use Rattle.load_figures.proofs.interval.slice_at.Goals as goal

pub returns-then-left-count-clause-some : goal.returns-then-left-count-clause-some
returns-then-left-count-clause-some c =
    let more : sum (take (c.loop-slice.slice + 1) c.args.slices.now) ≡ sum (take c.loop-slice.slice c.args.slices.now) + get_or c.args.slices.now c.loop-slice.slice 0 = sum_by_more (λ (n : ℕ). n) c.args.slices.now c.loop-slice.slice 0 (omega arith) in
    let one : sum (take (suc c.loop-slice.slice) c.args.slices.now) ≡ sum (take (c.loop-slice.slice + 1) c.args.slices.now) = ap (λ (n : ℕ). sum (take n c.args.slices.now)) (sym (add-one c.loop-slice.slice)) in
    record {
      there = omega arith;
      enough = omega (arith, more, one, c.loop-slice.invariant.0);
      fewer = omega (arith, c.loop-slice.invariant.0, c.loop-slice.invariant.1);
    }
