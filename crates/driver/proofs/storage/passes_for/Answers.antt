use Rattle.std.proofs.Common.{rules, ◌≡◌, ◌∷◌, ◌++◌, [], sym, subst}
use Rattle.std.specs.List.{All}
use Rattle.std.proofs.lemmas.List.Elements.{All-push}
use Rattle.shared_cache.specs.Passes.{IsPassOf, IsNewPass}
use Rattle.driver.proofs.storage.passes_for.Goals as goal

pub loop-preserved : goal.loop-preserved
loop-preserved g c =
    let pass = c.in-Ok-pass.pass in
    let passes = c.loop.passes.items in
    let more = c.push_reserved.new.self.items in
    let pushed : more ≡ passes ++ pass ∷ [] = search rules in
    let its : IsPassOf g.N.Names.names pass = search rules in
    let its_new : IsNewPass pass = search rules in
    record {
      number = search rules;
      room = search rules;
      passes = subst (All (IsPassOf g.N.Names.names)) (sym pushed) (All-push (IsPassOf g.N.Names.names) passes pass c.loop.invariant.passes its);
      new_passes = subst (All IsNewPass) (sym pushed) (All-push IsNewPass passes pass c.loop.invariant.new_passes its_new);
    }
