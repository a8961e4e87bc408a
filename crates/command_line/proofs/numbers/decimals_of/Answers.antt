use Rattle.std.proofs.Common.{◌∙◌, ap, length, sym}
use Rattle.command_line.proofs.Percentages.{tenths-read}
use Rattle.command_line.proofs.numbers.decimals_of.Goals as goal

pub returns-in_ok-number_of-in-1 : goal.returns-in_ok-number_of-in-1
returns-in_ok-number_of-in-1 c =
    rw (sym c.as_bytes.ensures.value)
    (tenths-read c.as_bytes.result.now c.in_ok-number_of-in-1.field-0 c.saturating_mul.result (ap length c.as_bytes.ensures.value ∙ c.in-1.is)
    (sym c.number_of.ensures ∙ c.in_ok-number_of-in-1.was) c.saturating_mul.ensures)
