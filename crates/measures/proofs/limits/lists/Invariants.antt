use Rattle.std.proofs.Common.{◌≡◌, false}
use Rattle.measures.proofs.limits.lists.Given as goal

abbrev pub invariant-loop-round : goal.invariant-loop-round
invariant-loop-round l = (l.lobby.table ≡ l.link) × ((l.host.table ≡ l.link) × (l.host.mark ≡ false))
