use Rattle.std.proofs.Common.{◌≡◌, [], None}
use Rattle.measures.proofs.limits.holds.Given as goal

abbrev pub invariant-loop-round : goal.invariant-loop-round
invariant-loop-round l = (l.holders.granted ≡ []) × ((l.holders.leased ≡ []) × (l.holders.back ≡ None))
