use Rattle.std.proofs.Common.{◌≡◌, ◌++◌, flat_map, string_bytes}
use Rattle.drawing.specs.Escaping.{escape}
use Rattle.drawing.proofs.escaping.add_escaped.Given as goal

-- the characters so far
abbrev pub invariant-loop-c : goal.invariant-loop-c
invariant-loop-c l = string_bytes l.out ≡ string_bytes l.fn.out ++ flat_map escape l.yielded
