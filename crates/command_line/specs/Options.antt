-- Options and operands as rules of clap, and the values that the words of a command give them.
use Rattle.std.specs.Prelude.{◌&&◌, ◌^◌, ℕ, Bool, true, false, is_some, is_none, List, [], ◌∷◌, Option, Some, None, unwrap_or, codes}
use Rattle.std.specs.Str.{bytes_eq}
use Rattle.std.specs.List.{list_any}
use Rattle.std.specs.Option.{option_and_then, option_map_or}
use Rattle.clap.specs.Words.{App, Row, Rule, Text, new_app, new_rule, with_rule}
use Rattle.clap.specs.Walk.{all_of, first_of}
use Rattle.clap.specs.Lexer.{usize_max}
use Rattle.clap.specs.declared.builder.action.ArgAction.TheVariants.{Append, SetTrue}
use Rattle.streams.specs.Words.{number}
use Rattle.command_line.specs.Numbers.{if_in, percent_in, seconds_in}
use Rattle.command_line.specs.OptionTable.{OptionFacts}
use Rattle.command_line.specs.declared.options.Takes.{Takes}
use Rattle.command_line.specs.declared.options.Takes.TheVariants as takes

-- a flag sets true, an option has one value, and an option that may be repeated appends it; an operand has no names
abbrev pub named_rule : OptionFacts → Rule
named_rule option = record (new_rule option.name) { long = Some option.name; short = option.short }

abbrev pub rule_by : Takes → OptionFacts → Rule
rule_by takes.Nothing option = record (named_rule option) { action = Some SetTrue }
rule_by takes.Texts option = record (named_rule option) { value_names = 1; action = Some Append }
rule_by takes.Operand option = new_rule option.name
rule_by takes.Operands option = record (new_rule option.name) { range = Some (record { start_inclusive = 1; end_inclusive = usize_max }) }
rule_by _ option = record (named_rule option) { value_names = 1 }

abbrev pub option_rule : OptionFacts → Rule
option_rule option = rule_by option.takes option

-- a command with options
abbrev pub with_rules : App → List OptionFacts → App
with_rules app [] = app
with_rules app (option ∷ options) = with_rules (with_rule app (option_rule option)) options

abbrev pub command_app : Text → List OptionFacts → App
command_app name options = with_rules (new_app name) options

-- a flag that is given has the value true
abbrev pub is_set : Option Text → Bool
is_set value = option_map_or (λ text. bytes_eq text (codes "true")) value false

abbrev pub flag_said : Text → List Row → Bool
flag_said name rows = is_set (first_of name rows)

-- the texts that are given for an option or operand
abbrev pub texts_said : Text → List Row → List Text
texts_said name rows = unwrap_or (all_of name rows) []

-- an option is given
abbrev pub is_used_by : Takes → Option Text → Bool
is_used_by takes.Nothing value = is_set value
is_used_by _ value = is_some value

abbrev pub is_used : List Row → OptionFacts → Bool
is_used rows option = is_used_by option.takes (first_of option.name rows)

abbrev pub is_given : Text → List Row → Bool
is_given name rows = is_some (first_of name rows)

-- the number of a text in a range
abbrev pub is_numeric : Takes → Bool
is_numeric takes.Number = true
is_numeric takes.Seconds = true
is_numeric takes.Percent = true
is_numeric _ = false

abbrev pub read_as : Takes → Text → Option ℕ
read_as takes.Number text = number (2 ^ 64) text
read_as takes.Seconds text = seconds_in text
read_as takes.Percent text = percent_in text
read_as _ text = None

abbrev pub value_in : Takes → ℕ → ℕ → Text → Option ℕ
value_in takes least greatest text = option_and_then (if_in least greatest) (read_as takes text)

-- the number that is given for an option; none if none is given, or a text that is no number of the range
abbrev pub number_said : Text → Takes → ℕ → ℕ → List Row → Option ℕ
number_said name takes least greatest rows = option_and_then (value_in takes least greatest) (first_of name rows)

-- a text that is no number of the range is given for an option
abbrev pub is_outside : Text → Takes → ℕ → ℕ → List Row → Bool
is_outside name takes least greatest rows = option_map_or (λ text. is_none (value_in takes least greatest text)) (first_of name rows) false

abbrev pub is_bad : List Row → OptionFacts → Bool
is_bad rows option = is_numeric option.takes && is_outside option.name option.takes option.least option.greatest rows

abbrev pub has_bad : List OptionFacts → List Row → Bool
has_bad options rows = list_any (is_bad rows) options
