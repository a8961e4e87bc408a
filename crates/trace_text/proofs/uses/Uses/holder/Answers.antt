use Rattle.std.proofs.Common.{rules, ◌≡◌, ◌∙◌, ap, sym, Option}
use Rattle.std.specs.Prelude.{◌==◌}
use Rattle.std.specs.Option.{option_map}
use Rattle.std.specs.Borrow.{Bor}
use Rattle.std.specs.List.{find}
use Rattle.std.proofs.lemmas.Iterator.{YieldsList-from_slice}
use Rattle.std.proofs.lemmas.Iterator.Search.{find_from_yields_List}
use Rattle.trace_text.specs.declared.uses.Held.{Held}
use Rattle.trace_text.proofs.Holdings.{find-holder}
use Rattle.trace_text.proofs.uses.Uses.holder.Goals as goal

pub returns-in-Some : goal.returns-in-Some
returns-in-Some c =
    let connection = c.args.connection in
    let held = c.args.self.now.held.items in
    let found : option_map (λ (h : Bor Held). h.now) c.find.result ≡ find (λ (h : Held). h.connection == connection) held =
    find_from_yields_List (λ (h : Held). h.connection == connection) _ _ _ c.find.ensures.ran (YieldsList-from_slice held (search rules)) (λ x b q k. search rules) in
    sym (ap (λ (r : Option (Bor Held)). option_map (λ (h : Held). h.want.transfer) (option_map (λ (h : Bor Held). h.now) r)) c.in-Some.is) ∙ ap (option_map (λ (h : Held). h.want.transfer)) found ∙ find-holder connection held

pub returns-in-None : goal.returns-in-None
returns-in-None c =
    let connection = c.args.connection in
    let held = c.args.self.now.held.items in
    let found : option_map (λ (h : Bor Held). h.now) c.find.result ≡ find (λ (h : Held). h.connection == connection) held =
    find_from_yields_List (λ (h : Held). h.connection == connection) _ _ _ c.find.ensures.ran (YieldsList-from_slice held (search rules)) (λ x b q k. search rules) in
    sym (ap (λ (r : Option (Bor Held)). option_map (λ (h : Held). h.want.transfer) (option_map (λ (h : Bor Held). h.now) r)) c.in-None.is) ∙ ap (option_map (λ (h : Held). h.want.transfer)) found ∙ find-holder connection held
