use Rattle.std.proofs.Common.{◌-◌, take, drop, length, sym, ◌∙◌, ap, arith}
use Rattle.std.specs.Prelude.{◌∷◌}
use Rattle.streams.specs.Lines.{lines}
use Rattle.streams.proofs.LineSplits.{lines-last, lines-more, split-at}
use Rattle.streams.proofs.lines.first_line.Goals as goal

pub returns-in-empty-clause-first : goal.returns-in-empty-clause-first
returns-in-empty-clause-first c =
    let split = split-at c.args.script.now c.split_at.result.0.now c.split_at.result.1.now c.place_of.result c.place_of.ensures.value c.split_at.ensures.front c.split_at.ensures.back in
    lines-last _ _ _ split (omega arith) (omega arith)

pub returns-in-len1-up-clause-first : goal.returns-in-len1-up-clause-first
returns-in-len1-up-clause-first c =
    let split = split-at c.args.script.now c.split_at.result.0.now c.split_at.result.1.now c.place_of.result c.place_of.ensures.value c.split_at.ensures.front c.split_at.ensures.back in
    lines-more c.args.script.now c.split_at.result.0.now c.split_at.result.1.now split (omega arith)
    ∙ ap (λ line. line ∷ lines (take (length c.split_at.result.1.now - 1) (drop 1 c.split_at.result.1.now))) (sym c.without_return.ensures)
