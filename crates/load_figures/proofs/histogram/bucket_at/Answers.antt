use Rattle.std.proofs.Common.{◌≡◌, ℕ, suc, ◌+◌, sum, take, get_or, ap, add-one, arith, sym}
use Rattle.std.proofs.lemmas.List.Sums.{sum_by_more}
use Rattle.load_figures.proofs.histogram.bucket_at.Goals as goal

pub returns-then-left-count-clause-some : goal.returns-then-left-count-clause-some
returns-then-left-count-clause-some c =
    let more : sum (take (c.loop-bucket.bucket + 1) c.args.counts.now) ≡ sum (take c.loop-bucket.bucket c.args.counts.now) + get_or c.args.counts.now c.loop-bucket.bucket 0 = sum_by_more (λ (n : ℕ). n) c.args.counts.now c.loop-bucket.bucket 0 (omega arith) in
    let one : sum (take (suc c.loop-bucket.bucket) c.args.counts.now) ≡ sum (take (c.loop-bucket.bucket + 1) c.args.counts.now) = ap (λ (n : ℕ). sum (take n c.args.counts.now)) (sym (add-one c.loop-bucket.bucket)) in
    record {
      there = omega arith;
      enough = omega (arith, more, one, c.loop-bucket.invariant.0);
      fewer = omega (arith, c.loop-bucket.invariant.0, c.loop-bucket.invariant.1);
    }
