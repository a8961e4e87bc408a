use Rattle.std.proofs.Common.{◌++◌, ◌∙◌, ap, sym, ℕ, List, flat_map, string_bytes}
use Rattle.std.proofs.lemmas.Iterator.{YieldsList-from_chars}
use Rattle.std.proofs.lemmas.Iterator.Consumers.{YieldsList-end}
use Rattle.std.proofs.lemmas.List.{map-id}
use Rattle.drawing.specs.Escaping.{escape}
use Rattle.drawing.proofs.escaping.add_escaped.Goals as goal

pub returns : goal.returns
returns c =
    let all = YieldsList-end (YieldsList-from_chars c.args.text.now c.utf8.text cc) c.loop-c.yielded _ c.loop-c.yielded_by _ _ c.in-None.is c.next.ensures.steps in
    c.loop-c.invariant ∙ ap (λ (cs : List ℕ). string_bytes c.args.out.now ++ flat_map escape cs) (sym (map-id c.loop-c.yielded) ∙ all.0)
