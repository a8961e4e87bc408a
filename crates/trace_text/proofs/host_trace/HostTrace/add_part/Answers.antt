-- One more entry of the part.
use Rattle.std.proofs.Common.{rules, ◌∙◌, ◌++◌, List, ap, get_or, reverse, take, string_bytes, sym, subst}
use Rattle.conn_log.specs.declared.entry.Entry.{Entry}
use Rattle.conn_log.specs.Connections.{holdings_after}
use Rattle.conn_log.specs.Waiting.{waiting_after}
use Rattle.trace_text.specs.HostLines.{lines_of}
use Rattle.trace_text.specs.HostUses.{AreUsesOf}
use Rattle.trace_text.proofs.HostLogs.{entry_written, log_so_far, no_entry}
use Rattle.trace_text.proofs.host_trace.HostTrace.add_part.Goals as goal

pub loop-entry-preserved : goal.loop-entry-preserved
loop-entry-preserved c =
    let part = c.args.part.now in
    let k = c.loop-entry.entry-index in
    let host = c.args.self.now.host in
    let now = string_bytes c.loop-entry.text in
    let e : Entry = get_or part k no_entry in
    record {
      host = search rules;
      written = λ before are.
          let log = reverse (take k part) ++ before in
          let added = c.in_ok-add_entry.ensures log (c.loop-entry.invariant.uses before are) in
          entry_written host before (string_bytes c.args.text.now) now (string_bytes c.add_entry.new.text) part k no_entry c.loop-entry-test.true (c.loop-entry.invariant.written before are)
          (added ∙ ap (λ h. now ++ lines_of h log e) c.loop-entry.invariant.host);
      uses = λ before are.
          let so_far = c.loop-entry.invariant.uses before are in
          subst (λ (log : List Entry). AreUsesOf log c.add.new.self) (sym (log_so_far before part k no_entry c.loop-entry-test.true))
          (record { held = c.in_ok-add.ensures.held ∙ ap (holdings_after e.event) so_far.held; waiting = c.in_ok-add.ensures.waiting ∙ ap (waiting_after e.event) so_far.waiting });
    }
