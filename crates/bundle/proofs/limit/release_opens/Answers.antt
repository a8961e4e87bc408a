use Rattle.std.proofs.Common.{◌<◌, ap, arith}
use Rattle.budget.specs.declared.permits.Held.{Held}
use Rattle.bundle.proofs.limit.release_opens.Goals as goal

pub loop-left-preserved : goal.loop-left-preserved
loop-left-preserved g c =
    let kept = c.loop-left.invariant in
    let one = c.release_open.ensures in
    let more : 0 < c.loop-left.left = omega (arith, c.loop-left-test.true) in
    record {
      most = omega (arith, kept.most);
      alive = omega (arith, kept.alive, c.requires.open, more, ap (λ (h : Held). h.alive) one.held);
      kept = omega (arith, kept.kept, ap (λ (h : Held). h.kept) one.held);
      none = λ all. absurd (omega (arith, all, more, kept.most));
      stands = one.stands;
      stays = g.met.P.Permits.stays_on _ _ _ kept.stays one.stays;
      unasked = g.met.P.Permits.asked_on _ _ _ 0 0 0 0 kept.unasked one.asked;
    }
