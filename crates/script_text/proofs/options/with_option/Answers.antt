use Rattle.std.proofs.Common.{sym, ◌∙◌, arith}
use Rattle.streams.specs.Words.{words}
use Rattle.script_text.proofs.GetOptions.{numbered-option, lone-option}
use Rattle.script_text.proofs.options.with_option.Goals as goal

pub returns-in_ok-options : goal.returns-in_ok-options
returns-in_ok-options c =
    numbered-option c.args.options c.in_ok-options.options c.args.name.now (words c.args.line.now) (words c.in_ok-number.others.now) c.in_ok-number.number
    (sym c.takes_number.ensures ∙ c.if-takes_number.true) (rw c.in_ok-number.was at (sym c.u64_first.ensures)) (sym c.with_number.ensures ∙ c.in_ok-options.was)

pub returns-in_ok-options-2 : goal.returns-in_ok-options-2
returns-in_ok-options-2 c = (
  lone-option c.args.options c.in_ok-options-2.options c.args.name.now (words c.args.line.now)
      (sym c.takes_number.ensures ∙ c.if-takes_number.false) (sym c.with_word.ensures ∙ c.in_ok-options-2.was),
  omega arith,
)
