use Rattle.std.proofs.Common.{◌-◌, length, take, drop, sym, subst, arith, List, ℕ}
use Rattle.audit_stream.specs.Reading.{IsCompleteLine}
use Rattle.audit_stream.proofs.CompleteLines.{complete-line}
use Rattle.audit_stream.proofs.line_ends.complete_line.Goals as goal

pub returns-in-len1-up-clause-line : goal.returns-in-len1-up-clause-line
returns-in-len1-up-clause-line c =
    let rest = c.split_at.result.1.now in
    subst (λ (line : List ℕ). IsCompleteLine c.args.text.now line (take (length rest - 1) (drop 1 rest))) (sym c.without_return.ensures)
    (complete-line c.args.text.now c.split_at.result.0.now rest c.place_of.result c.place_of.ensures.value c.split_at.ensures.front c.split_at.ensures.back (omega arith))
