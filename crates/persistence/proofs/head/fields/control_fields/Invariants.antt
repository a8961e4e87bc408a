use Rattle.std.proofs.Common.{take}
use Rattle.persistence.specs.ReadingHeads.{fields_at}
use Rattle.persistence.specs.ReadingFields.{TellsFields}
use Rattle.persistence.proofs.head.fields.control_fields.Given as goal

abbrev pub invariant-loop-span : goal.invariant-loop-span
invariant-loop-span l = TellsFields (fields_at l.text (take l.span-index l.spans)) l.told
