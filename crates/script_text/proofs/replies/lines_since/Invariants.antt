use Rattle.std.proofs.Common.{◌≡◌, take, flat_map, string_bytes}
use Rattle.script_text.specs.Printing.{entry_line}
use Rattle.script_text.proofs.replies.lines_since.Given as goal

-- the lines so far
abbrev pub invariant-loop-entry : goal.invariant-loop-entry
invariant-loop-entry l = string_bytes l.text ≡ flat_map (entry_line l.host l.by) (take l.entry-index l.entry-items)
