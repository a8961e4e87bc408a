-- One loop more is empty.
use Rattle.std.proofs.Common.{rules, ◌≡◌, ◌∷◌, ◌++◌, [], List, sym, subst}
use Rattle.std.specs.List.{All}
use Rattle.std.proofs.lemmas.List.Elements.{All-push}
use Rattle.run_loop.specs.declared.run_loop.RunLoop.{RunLoop}
use Rattle.driver.proofs.many.storage.loops_for.Goals as goal

pub loop-task-preserved : goal.loop-task-preserved
loop-task-preserved g c =
    let made = c.in-Ok.made in
    let loops = c.loop-task.loops.items in
    let pushed : c.push_reserved.new.self.items ≡ loops ++ made ∷ [] = search rules in
    let its : made.slab.slots ≡ [] = search rules in
    record {
      number = search rules;
      count = search rules;
      room = search rules;
      empty = subst (λ (l : List (RunLoop g.row.W.Denot g.W.Wire)). All (λ (it : RunLoop g.row.W.Denot g.W.Wire). it.slab.slots ≡ []) l) (sym pushed)
          (All-push (λ (it : RunLoop g.row.W.Denot g.W.Wire). it.slab.slots ≡ []) loops made c.loop-task.invariant.empty its);
    }
