use Rattle.std.proofs.Common.{map, string_bytes, take}
use Rattle.command_line.specs.Resolving.{AreResolved}
use Rattle.command_line.proofs.resolve.given_hosts.Given as goal

abbrev pub invariant-loop-value : goal.invariant-loop-value
invariant-loop-value l = AreResolved (map string_bytes (take l.value-index l.value-items)) l.hosts.items
