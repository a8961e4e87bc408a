-- A fault of a stream as a fault of a script.
use Rattle.streams.specs.declared.stream_fault.StreamFault.{StreamFault}
use Rattle.streams.specs.declared.stream_fault.StreamFault.TheVariants as streams
use Rattle.script_text.specs.declared.fault.FaultKind.{FaultKind}
use Rattle.script_text.specs.declared.fault.FaultKind.TheVariants.{Memory, Read, Write}

abbrev pub kind_of : StreamFault → FaultKind
kind_of streams.Memory = Memory
kind_of streams.Read = Read
kind_of streams.Write = Write
