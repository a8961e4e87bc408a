-- Reasons of refusals.
use Rattle.command_line.specs.declared.refusal.Refusal.{Refusal}
use Rattle.command_line.specs.declared.refusal.Refusal.TheVariants.{Memory, Wrong}

-- words are refused since that holds, or since memory ran out
abbrev pub IsWhy : Type 0 → Refusal → Type 0
IsWhy Holds Memory = Unit {0}
IsWhy Holds (Wrong text) = Holds
