-- Faults: their names, and the order in which they are counted.
use Rattle.std.specs.Prelude.{ℕ, List, codes}
use Rattle.exchange.specs.declared.done.Fault.{Fault}
use Rattle.exchange.specs.declared.done.Fault.TheVariants.{Memory, Dial, Read, Write, BadResponse, Cut, Refused, Cancelled}

-- the name of a fault: that of its variant
abbrev pub fault_name : Fault → List ℕ
fault_name Memory = codes "Memory"
fault_name Dial = codes "Dial"
fault_name Read = codes "Read"
fault_name Write = codes "Write"
fault_name BadResponse = codes "BadResponse"
fault_name Cut = codes "Cut"
fault_name (Refused refusal) = codes "Refused"
fault_name Cancelled = codes "Cancelled"

-- the place of a fault among the faults that are counted
abbrev pub fault_index : Fault → ℕ
fault_index Dial = 0
fault_index Read = 1
fault_index Write = 2
fault_index BadResponse = 3
fault_index Cut = 4
fault_index Cancelled = 5
fault_index (Refused refusal) = 6
fault_index Memory = 7
