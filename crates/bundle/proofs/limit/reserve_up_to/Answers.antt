use Rattle.std.proofs.Common.{◌≡◌, true, ◌+◌, ap, arith}
use Rattle.std.specs.Prelude.{nat_lt}
use Rattle.std.proofs.lemmas.Bool.Decides.{nat_tests}
use Rattle.budget.specs.declared.permits.Held.{Held}
use Rattle.bundle.proofs.Asking.{then_none, is_due}
use Rattle.bundle.proofs.limit.reserve_up_to.Goals as goal

pub loop-got-preserved : goal.loop-got-preserved
loop-got-preserved g c =
    let kept = c.loop-got.invariant in
    let one = c.reserve_open.ensures in
    record {
      most = omega (arith, c.loop-got-test.true);
      alive = omega (arith, kept.alive, ap (λ (h : Held). h.alive) c.in-Got.ensures.held);
      kept = omega (arith, kept.kept, ap (λ (h : Held). h.kept) c.in-Got.ensures.held);
      stands = one.stands;
      stays = g.met.P.Permits.stays_on _ _ _ kept.stays one.stays;
      asks = g.met.P.Permits.asked_on _ _ _ c.loop-got.got 0 1 0 kept.asks one.asked;
    }

-- the one that was not given was asked for too
pub returns-in-Full-clause-asks : goal.returns-in-Full-clause-asks
returns-in-Full-clause-asks g c =
    let fewer : nat_lt c.loop-got.got c.args.count ≡ true = grind (arith, nat_tests, c.loop-got-test.true) in
    is_due (λ n. g.P.Permits.asked c.args.permits.now c.reserve_open.new.self (c.loop-got.got + n) 0) _ fewer (g.met.P.Permits.asked_on _ _ _ c.loop-got.got 0 1 0 c.loop-got.invariant.asks c.reserve_open.ensures.asked)

pub returns-in-Contended-clause-asks_again : goal.returns-in-Contended-clause-asks_again
returns-in-Contended-clause-asks_again g c =
    let asked = g.met.P.Permits.asked_on _ _ _ c.loop-got.got 0 1 0 c.loop-got.invariant.asks c.reserve_open.ensures.asked in
    (c.loop-got.got + 1, omega arith, omega (arith, c.loop-got-test.true), then_none g.P.Permits.asked g.met.P.Permits.asked_on _ _ _ _ _ asked c.release_opens.ensures.unasked)

pub returns-in-Contended-clause-stays : goal.returns-in-Contended-clause-stays
returns-in-Contended-clause-stays g c = g.met.P.Permits.stays_on _ _ _ c.loop-got.invariant.stays (g.met.P.Permits.stays_on _ _ _ c.reserve_open.ensures.stays c.release_opens.ensures.stays)
