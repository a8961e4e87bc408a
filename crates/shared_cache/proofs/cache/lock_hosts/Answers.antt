use Rattle.std.proofs.Common.{suc, sym, subst, arith, rules}
use Rattle.std.specs.List.{All}
use Rattle.shared_cache.specs.Locked.{IsHostUnder}
use Rattle.shared_cache.proofs.cache.lock_hosts.Goals as goal

pub invariant_of-host : goal.invariant_of-host
invariant_of-host g c =
    let all = subst (All (IsHostUnder g.N.Names.names)) c.in-Some.ensures.steps.0 c.loop-planned.invariant.4 in
    subst (IsHostUnder g.N.Names.names) (sym c.planned.view_is) (all 0 c.in-Some.planned (omega arith))

pub loop-planned-preserved : goal.loop-planned-preserved
loop-planned-preserved g c =
    let all = subst (All (IsHostUnder g.N.Names.names)) c.in-Some.ensures.steps.0 c.loop-planned.invariant.4 in
    (tt, tt, search rules, search rules, λ k d inside. all (suc k) d (omega (arith, inside)))
