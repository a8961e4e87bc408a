use Rattle.std.proofs.Common.{◌≡◌, ◌++◌, take, flat_map, string_bytes}
use Rattle.load_report.specs.Accounts.{in_places}
use Rattle.load_report.proofs.account_lines.add_line.Given as goal

-- the label and the numbers so far
abbrev pub invariant-loop-number : goal.invariant-loop-number
invariant-loop-number l = string_bytes l.text ≡ string_bytes l.fn.text ++ (l.fn.label ++ flat_map in_places (take l.number-index l.numbers))
