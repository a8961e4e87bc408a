use Rattle.std.proofs.Common.{◌≡◌}
use Rattle.curlpool_c.specs.Logs.{cut_first, untold_first}
use Rattle.curlpool_c.proofs.logs.drop_all.Given as goal

abbrev pub invariant-loop-site : goal.invariant-loop-site
invariant-loop-site l = record {
  cuts : l.held ≡ record l.fn.held { pool = cut_first l.site l.fn.held.pool };
  noted : l.told ≡ untold_first l.site l.fn.told;
}
