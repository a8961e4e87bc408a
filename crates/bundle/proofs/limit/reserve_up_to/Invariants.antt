use Rattle.std.proofs.Common.{◌≡◌, ◌+◌, ◌-◌, ◌≤◌}
use Rattle.bundle.proofs.limit.reserve_up_to.Given as goal

abbrev pub decreases-loop-got : goal.decreases-loop-got
decreases-loop-got g l = l.count - l.got

abbrev pub invariant-loop-got : goal.invariant-loop-got
invariant-loop-got g l = record {
  most : l.got ≤ l.count;
  alive : (g.P.Permits.held l.permits).alive ≡ (g.P.Permits.held l.fn.permits).alive + l.got;
  kept : (g.P.Permits.held l.permits).kept ≡ (g.P.Permits.held l.fn.permits).kept;
  stands : g.P.Permits.stands l.permits;
  stays : g.P.Permits.stays l.fn.permits l.permits;
  asks : g.P.Permits.asked l.fn.permits l.permits l.got 0;
}
