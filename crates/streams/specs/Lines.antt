-- The lines of a script.
use Rattle.std.specs.Prelude.{ℕ, Bool, ◌==◌, List}
use Rattle.std.specs.List.{slice_split}
use Rattle.std.specs.Str.Lines.{lines_of_parts}

-- lines: what LF ends, less a CR directly before it; the last line may lack its LF, and then keeps a CR
abbrev pub ends_line : ℕ → Bool
ends_line byte = byte == 10

unfoldable pub lines : List ℕ → List (List ℕ)
lines script = lines_of_parts (slice_split ends_line script)
