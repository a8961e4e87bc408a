use Rattle.std.proofs.Common.{rules, ◌≡◌, ◌∙◌, false, sym}
use Rattle.std.specs.Prelude.{◌==◌}
use Rattle.command_line.specs.Numbers.{seconds_with}
use Rattle.command_line.proofs.Durations.{in-hours, in-minutes, in-seconds, without-unit}
use Rattle.command_line.proofs.numbers.seconds_of.Goals as goal

pub returns-in_err-number_of-in-104 : goal.returns-in_err-number_of-in-104
returns-in_err-number_of-in-104 c =
    let none : c.from_residual-in_err-number_of-in-104.result ≡ seconds_with 3600 c.in_ok-unit.digits.now = search rules in
    none ∙ sym (in-hours c.args.text.now c.in_ok-unit.digits.now c.in_ok-unit.field-0-0.now c.in_ok-unit.ensures.cases.0 c.in-104.is)

pub returns-in_ok-number_of-in-104 : goal.returns-in_ok-number_of-in-104
returns-in_ok-number_of-in-104 c =
    let seconds : c.checked_mul.result ≡ seconds_with 3600 c.in_ok-unit.digits.now = search rules in
    seconds ∙ sym (in-hours c.args.text.now c.in_ok-unit.digits.now c.in_ok-unit.field-0-0.now c.in_ok-unit.ensures.cases.0 c.in-104.is)

pub returns-in_err-number_of-in-109 : goal.returns-in_err-number_of-in-109
returns-in_err-number_of-in-109 c =
    let none : c.from_residual-in_err-number_of-in-109.result ≡ seconds_with 60 c.in_ok-unit.digits.now = search rules in
    none ∙ sym (in-minutes c.args.text.now c.in_ok-unit.digits.now c.in_ok-unit.field-0-0.now c.in_ok-unit.ensures.cases.0 c.in-109.is)

pub returns-in_ok-number_of-in-109 : goal.returns-in_ok-number_of-in-109
returns-in_ok-number_of-in-109 c =
    let seconds : c.checked_mul-in-109.result ≡ seconds_with 60 c.in_ok-unit.digits.now = search rules in
    seconds ∙ sym (in-minutes c.args.text.now c.in_ok-unit.digits.now c.in_ok-unit.field-0-0.now c.in_ok-unit.ensures.cases.0 c.in-109.is)

pub returns-in-115 : goal.returns-in-115
returns-in-115 c =
    c.number_of-in-115.ensures ∙ sym (in-seconds c.args.text.now c.in_ok-unit.digits.now c.in_ok-unit.field-0-0.now c.in_ok-unit.ensures.cases.0 c.in-115.is)

pub returns-in_default : goal.returns-in_default
returns-in_default c =
    let byte = c.in_ok-unit.field-0-0.now in
    let hours : (byte == 104) ≡ false = search rules in
    let minutes : (byte == 109) ≡ false = search rules in
    let seconds : (byte == 115) ≡ false = search rules in
    c.number_of-in_default.ensures ∙ sym (without-unit c.args.text.now c.in_ok-unit.digits.now byte c.in_ok-unit.ensures.cases.0 hours minutes seconds)
