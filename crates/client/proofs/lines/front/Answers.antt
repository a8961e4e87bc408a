use Rattle.std.proofs.Common.{ap, ◌∙◌, take, ℕ}
use Rattle.std.proofs.lemmas.List.{take_min}
use Rattle.client.proofs.lines.front.Goals as goal

pub returns : goal.returns
returns c = ap (λ (k : ℕ). take k c.args.line.now) c.min-end.ensures ∙ take_min 2048 c.args.line.now
