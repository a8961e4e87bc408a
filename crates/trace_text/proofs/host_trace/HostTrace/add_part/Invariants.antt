use Rattle.std.proofs.Common.{◌≡◌, ◌++◌, List, reverse, take, string_bytes}
use Rattle.conn_log.specs.declared.entry.Entry.{Entry}
use Rattle.trace_text.specs.HostLines.{part_lines}
use Rattle.trace_text.specs.HostUses.{AreUsesOf}
use Rattle.trace_text.proofs.host_trace.HostTrace.add_part.Given as goal

-- the lines of the entries so far
abbrev pub invariant-loop-entry : goal.invariant-loop-entry
invariant-loop-entry l = record {
  host : l.self.host ≡ l.fn.self.host;
  written : (before : List Entry) → AreUsesOf before l.fn.self.uses → string_bytes l.text ≡ string_bytes l.fn.text ++ part_lines l.fn.self.host before (take l.entry-index l.part);
  uses : (before : List Entry) → AreUsesOf before l.fn.self.uses → AreUsesOf (reverse (take l.entry-index l.part) ++ before) l.self.uses;
}
