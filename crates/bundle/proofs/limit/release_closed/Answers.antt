use Rattle.std.proofs.Common.{◌<◌, ap, ◌∙◌, arith}
use Rattle.budget.specs.declared.permits.Held.{Held}
use Rattle.budget.specs.Permits.{one_less_open}
use Rattle.bundle.proofs.limit.release_closed.Goals as goal

pub loop-left-preserved : goal.loop-left-preserved
loop-left-preserved g c =
    let kept = c.loop-left.invariant in
    let one = c.release_kept.ensures in
    let both = c.release_open.ensures in
    let held = both.held ∙ ap one_less_open one.held in
    let more : 0 < c.loop-left.left = omega (arith, c.loop-left-test.true) in
    record {
      most = omega (arith, kept.most);
      alive = omega (arith, kept.alive, c.requires.open, more, ap (λ (h : Held). h.alive) held);
      kept = omega (arith, kept.kept, c.requires.kept, more, ap (λ (h : Held). h.kept) held);
      none = λ all. absurd (omega (arith, all, more, kept.most));
      stands = both.stands;
      stays = g.met.P.Permits.stays_on _ _ _ kept.stays (g.met.P.Permits.stays_on _ _ _ one.stays both.stays);
      unasked = g.met.P.Permits.asked_on _ _ _ 0 0 0 0 kept.unasked (g.met.P.Permits.asked_on _ _ _ 0 0 0 0 one.asked both.asked);
    }
