use Rattle.std.proofs.Common.{◌≡◌, ◌+◌, ◌≤◌}
use Rattle.bundle.proofs.limit.release_closed.Given as goal

abbrev pub decreases-loop-left : goal.decreases-loop-left
decreases-loop-left g l = l.left

abbrev pub invariant-loop-left : goal.invariant-loop-left
invariant-loop-left g l = record {
  most : l.left ≤ l.count;
  alive : (g.P.Permits.held l.permits).alive + l.count ≡ (g.P.Permits.held l.fn.permits).alive + l.left;
  kept : (g.P.Permits.held l.permits).kept + l.count ≡ (g.P.Permits.held l.fn.permits).kept + l.left;
  none : l.left ≡ l.count → l.permits ≡ l.fn.permits;
  stands : g.P.Permits.stands l.permits;
  stays : g.P.Permits.stays l.fn.permits l.permits;
  unasked : g.P.Permits.asked l.fn.permits l.permits 0 0;
}
