-- Each loop is empty.
use Rattle.std.proofs.Common.{◌≡◌, []}
use Rattle.std.proofs.lemmas.List.Elements.{All-pop}
use Rattle.run_loop.specs.declared.run_loop.RunLoop.{RunLoop}
use Rattle.driver.proofs.many.storage.destroy_all.Goals as goal

pub destroy_empty-requires : goal.destroy_empty-requires
destroy_empty-requires g c =
    let its = All-pop (λ (it : RunLoop g.row.W.Denot g.W.Wire). it.slab.slots ≡ []) c.loop-last.loops.items c.pop.new.self.items c.pop.result c.pop.ensures.items c.loop-last.invariant.empty in
    rw c.in-Some.is at its.1

pub loop-last-preserved : goal.loop-last-preserved
loop-last-preserved g c = record {
  empty = (All-pop (λ (it : RunLoop g.row.W.Denot g.W.Wire). it.slab.slots ≡ []) c.loop-last.loops.items c.pop.new.self.items c.pop.result c.pop.ensures.items c.loop-last.invariant.empty).0;
}
