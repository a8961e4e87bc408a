use Rattle.std.proofs.Common.{rules, ◌≡◌, ◌∷◌, ◌++◌, [], sym, subst}
use Rattle.std.specs.List.{All}
use Rattle.std.proofs.lemmas.List.Elements.{All-push}
use Rattle.shared_cache.specs.Passes.{IsPassOf}
use Rattle.tries.proofs.soaking.crew.add_pass.Goals as goal

pub returns-in-Some-clause-passes : goal.returns-in-Some-clause-passes
returns-in-Some-clause-passes g c =
    let pass = c.in-Some.pass in
    let passes = c.args.passes.now.items in
    let pushed : c.push_reserved.new.self.items ≡ passes ++ pass ∷ [] = search rules in
    let its : IsPassOf g.N.Names.names pass = search rules in
    subst (All (IsPassOf g.N.Names.names)) (sym pushed) (All-push (IsPassOf g.N.Names.names) passes pass c.requires.passes its)
