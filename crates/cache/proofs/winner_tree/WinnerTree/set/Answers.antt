use Rattle.std.proofs.Common.{◌≡◌, arith, rules}
use Rattle.cache.proofs.Replays.{begins, ends, stops_early, goes_on}
use Rattle.cache.proofs.winner_tree.WinnerTree.set.Goals as goal

pub loop-place-init : goal.loop-place-init
loop-place-init c = begins c.self.inside.hosts c.self.inside.nodes.items c.self.invariant _ c.self.view_is c.args.host c.requires.there c.args.stamp c.requires.own

pub invariant_of-self : goal.invariant_of-self
invariant_of-self c = ends _ _ _ _ c.loop-place.invariant c.loop-place-test.false

pub index-requires : goal.index-requires
index-requires c = omega (arith, c.loop-place.invariant.size)

pub index-requires-in-loop-place : goal.index-requires-in-loop-place
index-requires-in-loop-place c = omega (arith, c.loop-place.invariant.size)

pub index-requires-in-loop-place-2 : goal.index-requires-in-loop-place-2
index-requires-in-loop-place-2 c = omega (arith, c.loop-place.invariant.size)

pub invariant_of-self-then-eq : goal.invariant_of-self-then-eq
invariant_of-self-then-eq c =
    let same : c.index-in-loop-place-2.result.now ≡ c.earlier_of-winner.result = search rules in
    stops_early _ _ _ _ c.loop-place.invariant c.loop-place-test.true _ _ _ c.index.ensures c.index-in-loop-place.ensures c.earlier_of-winner.ensures _ c.index-in-loop-place-2.ensures same

pub returns-then-eq : goal.returns-then-eq
returns-then-eq c = c.loop-place.invariant.leaves_are

pub index_mut-requires-in-loop-place : goal.index_mut-requires-in-loop-place
index_mut-requires-in-loop-place c = omega (arith, c.loop-place.invariant.size)

pub loop-place-preserved : goal.loop-place-preserved
loop-place-preserved c = goes_on _ _ _ _ c.loop-place.invariant c.loop-place-test.true _ _ _ c.index.ensures c.index-in-loop-place.ensures c.earlier_of-winner.ensures

pub returns : goal.returns
returns c = c.loop-place.invariant.leaves_are
