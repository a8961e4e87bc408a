use Rattle.std.proofs.Common.{◌∙◌, ap, sym}
use Rattle.std.specs.Borrow.{Bor}
use Rattle.std.specs.Option.{option_and_then, option_map}
use Rattle.clap.specs.Words.{Text}
use Rattle.command_line.specs.Options.{value_in}
use Rattle.command_line.proofs.values.number.Goals as goal

pub returns-clause-given : goal.returns-clause-given
returns-clause-given c =
    let option = c.args.option.now in
    c.number_in.ensures.value
    ∙ ap (option_and_then (value_in option.takes option.least option.greatest)) (sym (ap (option_map (λ (text : Bor Text). text.now)) c.in_ok-text_of.was) ∙ c.text_of.ensures)
