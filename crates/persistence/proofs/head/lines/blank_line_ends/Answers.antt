use Rattle.std.proofs.Common.{◌+◌, length, ap, ◌∙◌, arith}
use Rattle.persistence.specs.ReadingHeads.{skip_newlines, line_ends}
use Rattle.persistence.proofs.HeadLines.{skip_newlines_within, line_ends-blank}
use Rattle.persistence.proofs.head.lines.blank_line_ends.Goals as goal

pub returns : goal.returns
returns c =
    ap (λ n. n + line_ends (skip_newlines c.args.text.now)) c.line_ends.ensures
    ∙ line_ends-blank c.args.text.now _ (omega (arith, ap length c.past_newlines-rest.ensures, skip_newlines_within c.args.text.now))
