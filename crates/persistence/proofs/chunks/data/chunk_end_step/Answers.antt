use Rattle.std.proofs.Common.{sym, ◌∙◌}
use Rattle.persistence.proofs.DataLemmas.{end_open, end_whole, end_wrong, end_fixes}
use Rattle.persistence.proofs.chunks.data.chunk_end_step.Goals as goal

pub returns-clause-open : goal.returns-clause-open
returns-clause-open c = λ e text len at. end_open text len c.args.has_cr c.args.byte at (sym c.line_end_after.ensures ∙ e)

pub returns-clause-whole : goal.returns-clause-whole
returns-clause-whole c = λ e text len at. end_whole text len c.args.has_cr c.args.byte at (sym c.line_end_after.ensures ∙ e)

pub returns-clause-fault : goal.returns-clause-fault
returns-clause-fault c = λ e text len at. end_wrong text len c.args.has_cr c.args.byte at (sym c.line_end_after.ensures ∙ e)

pub returns-clause-fixes : goal.returns-clause-fixes
returns-clause-fixes c = λ e text len at. end_fixes text len c.args.has_cr c.args.byte at (sym c.line_end_after.ensures ∙ e)
