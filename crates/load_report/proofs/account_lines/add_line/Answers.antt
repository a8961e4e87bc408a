use Rattle.std.proofs.Common.{ℕ, string_bytes, get_or, ap, ◌∙◌}
use Rattle.std.specs.Fmt.{styled_decimal}
use Rattle.load_report.proofs.Holes.{hole_in_places, number_written}
use Rattle.load_report.proofs.account_lines.add_line.Goals as goal

pub loop-number-preserved : goal.loop-number-preserved
loop-number-preserved c =
    let number : ℕ = get_or c.args.numbers.now c.loop-number.number-index 0 in
    number_written (string_bytes c.args.text.now) c.args.label.now (string_bytes c.loop-number.text) (string_bytes c.write.new.self) (styled_decimal c.laid_out.result number) c.args.numbers.now c.loop-number.number-index
    c.loop-number-test.true c.loop-number.invariant (ap (λ style. styled_decimal style number) c.laid_out.ensures ∙ hole_in_places number) c.in_ok-write.ensures.bytes
