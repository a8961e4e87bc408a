use Rattle.std.proofs.Common.{◌≡◌, ◌≢◌, Some, sym, ap, ◌∙◌, arith, rules}
use Rattle.cache.specs.AllHosts.{oldest_of_all}
use Rattle.cache.specs.Pools.{PoolShown, all_hosts}
use Rattle.cache.proofs.StampOrder.{there_at}
use Rattle.cache.proofs.TrueStamps.{none_kept, told_true, noted_there, own_stamp, found, found_none, fewer_left, kept_noting}
use Rattle.cache.proofs.hosts.Hosts.oldest.Goals as goal

pub returns-then-kept-eq0-clause-oldest : goal.returns-then-kept-eq0-clause-oldest
returns-then-kept-eq0-clause-oldest g c =
    sym (none_kept c.self.inside.bundles.items c.self.inside.budget _ c.self.invariant.parts c.kept.ensures.kept c.if-kept-eq0.true)
    ∙ ap (λ (pool : PoolShown g.row.S.Denot). oldest_of_all (all_hosts pool)) c.self.view_is

pub loop-noted-init : goal.loop-noted-init
loop-noted-init g c = record { same = c.self.view_is; kept = c.self.invariant }

pub index-requires : goal.index-requires
index-requires g c = let there = noted_there _ _ _ _ _ c.loop-noted.invariant.kept c.in-Some.noted c.in-Some.ensures.own in omega (arith, there)

pub invariant_of-self : goal.invariant_of-self
invariant_of-self g c = c.loop-noted.invariant.kept

pub returns-then-eq-clause-same : goal.returns-then-eq-clause-same
returns-then-eq-clause-same g c = c.loop-noted.invariant.same

pub returns-then-eq-clause-oldest : goal.returns-then-eq-clause-oldest
returns-then-eq-clause-oldest g c =
    let kept = c.loop-noted.invariant.kept in
    let same : c.oldest-stamp.result ≡ Some c.in-Some.noted = search rules in
    found _ _ _ _ _ kept _ c.in-Some.noted c.in-Some.is c.first.ensures.earliest _ (told_true _ _ _ _ _ kept c.in-Some.noted.host (noted_there _ _ _ _ _ kept c.in-Some.noted c.in-Some.ensures.own) _ c.index.ensures _ c.oldest-stamp.ensures) same
    ∙ ap (λ (pool : PoolShown g.row.S.Denot). oldest_of_all (all_hosts pool)) c.loop-noted.invariant.same

pub set-requires-clause-there : goal.set-requires-clause-there
set-requires-clause-there g c = there_at _ _ _ c.in-Some.ensures.own

pub set-requires-clause-own : goal.set-requires-clause-own
set-requires-clause-own g c =
    let kept = c.loop-noted.invariant.kept in
    let there = noted_there _ _ _ _ _ kept c.in-Some.noted c.in-Some.ensures.own in
    own_stamp _ _ _ _ _ kept _ there _ (told_true _ _ _ _ _ kept _ there _ c.index.ensures _ c.oldest-stamp.ensures)

pub loop-noted-smaller : goal.loop-noted-smaller
loop-noted-smaller g c =
    let kept = c.loop-noted.invariant.kept in
    let there = noted_there _ _ _ _ _ kept c.in-Some.noted c.in-Some.ensures.own in
    let apart : c.oldest-stamp.result ≢ Some c.in-Some.noted = search rules in
    fewer_left _ _ _ _ _ kept _ there _ (told_true _ _ _ _ _ kept _ there _ c.index.ensures _ c.oldest-stamp.ensures) _ c.set.ensures c.in-Some.noted c.in-Some.ensures.own apart

pub loop-noted-preserved : goal.loop-noted-preserved
loop-noted-preserved g c =
    let kept = c.loop-noted.invariant.kept in
    let there = noted_there _ _ _ _ _ kept c.in-Some.noted c.in-Some.ensures.own in
    record {
      same = c.loop-noted.invariant.same;
      kept = kept_noting _ _ _ _ _ kept _ there _ (told_true _ _ _ _ _ kept _ there _ c.index.ensures _ c.oldest-stamp.ensures) _ c.set.ensures;
    }

pub invariant_of-self-in_default : goal.invariant_of-self-in_default
invariant_of-self-in_default g c = c.loop-noted.invariant.kept

pub returns-clause-same : goal.returns-clause-same
returns-clause-same g c = c.loop-noted.invariant.same

pub returns-clause-oldest : goal.returns-clause-oldest
returns-clause-oldest g c =
    found_none _ _ _ _ _ c.loop-noted.invariant.kept _ c.in_default.is c.first.ensures.earliest
    ∙ ap (λ (pool : PoolShown g.row.S.Denot). oldest_of_all (all_hosts pool)) c.loop-noted.invariant.same
