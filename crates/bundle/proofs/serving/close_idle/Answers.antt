use Rattle.std.proofs.Common.{length, ap, ◌∙◌, arith}
use Rattle.budget.specs.Permits.{one_less_open, one_less_kept}
use Rattle.host_state.proofs.Limits.{closes_then}
use Rattle.bundle.proofs.Starting.{left_picked, both_freed}
use Rattle.bundle.proofs.serving.close_idle.Goals as goal

pub loop-permits-preserved : goal.loop-permits-preserved
loop-permits-preserved g c =
    let kept = c.loop-permits.invariant in
    let next = c.close_next.ensures.some c.loop-permits-test.true in
    let closing = c.args.closing.now in
    let moment = c.args.moment in
    let between = c.loop-permits.state in
    let after = c.close_next.new.self in
    let one = c.release_kept.ensures in
    let both = c.release_open.ensures in
    record {
      left = left_picked closing moment between.log after.log next.number next.picked next.log ∙ kept.left;
      count = omega (arith, kept.count, ap length next.picked, next.fewer_idle);
      closes = closes_then moment c.args.state.now between after kept.closes next.closes;
      stands = both.stands;
      stays = g.met.P.Permits.stays_on _ _ _ kept.stays (g.met.P.Permits.stays_on _ _ _ one.stays both.stays);
      unasked = g.met.P.Permits.asked_on _ _ _ 0 0 0 0 kept.unasked (g.met.P.Permits.asked_on _ _ _ 0 0 0 0 one.asked both.asked);
      as_many_held = omega (arith, kept.as_many_held, next.fewer_open, next.fewer_idle);
      part = both.held ∙ ap one_less_open (one.held ∙ ap one_less_kept kept.part) ∙ both_freed _ _ _ _ next.fewer_open next.fewer_idle;
    }
