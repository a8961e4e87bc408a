-- The line of a transfer is written, if there was memory for it.
use Rattle.std.proofs.Common.{◌≡◌, ◌<◌, ◌∙◌, length, rules, sym, ap, get_or}
use Rattle.std.specs.Prelude.{remove}
use Rattle.run_loop.specs.Taking.{job_result}
use Rattle.crawl.specs.Written.{Counts, done_failed, output_shown}
use Rattle.crawl.specs.declared.in_flight.InFlight.{InFlight}
use Rattle.crawl.proofs.Lines.{ignored_after_fault, ignored_unknown, no_fault, result_written}
use Rattle.crawl.proofs.output.OutputResults.take.Goals as goal

pub returns-then-is_some : goal.returns-then-is_some
returns-then-is_some g c =
    let was = c.args.self.now in
    ignored_after_fault (job_result c.args.number c.args.done c.args.span) (output_shown was.progress.now (g.W.Sink.sink was.output.now) was.output.ghost_name) (sym c.is_some.ensures ∙ c.if-is_some.true)

pub returns-in_default : goal.returns-in_default
returns-in_default g c =
    let was = c.args.self.now in
    ignored_unknown (job_result c.args.number c.args.done c.args.span) (output_shown was.progress.now (g.W.Sink.sink was.output.now) was.output.ghost_name)
    (rw c.as_slice.ensures.value at c.in_default.ensures.none)

pub returns : goal.returns
returns g c =
    let was = c.args.self.now in
    let now = c.write.new.self in
    let one = c.remove-one.result in
    let place = c.in-Some.index in
    let all = was.progress.now.in_flight.items in
    let below : place < length all = rw c.as_slice.ensures.value at c.in-Some.ensures.below in
    let number : (get_or all place one).number ≡ c.args.number = (rw c.as_slice.ensures.value at c.in-Some.ensures.there) one in
    let left : now.progress.now.in_flight.items ≡ remove all place = search rules in
    let counts : Counts (done_failed was.progress.now.flags c.args.done) was.progress.now.tally now.progress.now.tally = rw c.is_failure.ensures at c.write.ensures.counts in
    result_written c.transfer_line-line.result (job_result c.args.number c.args.done c.args.span) place one (output_shown was.progress.now (g.W.Sink.sink was.output.now) was.output.ghost_name)
    (output_shown now.progress.now (g.W.Sink.sink now.output.now) now.output.ghost_name) below c.remove-one.ensures.value (ap (λ (o : InFlight). o.number) c.remove-one.ensures.value ∙ number)
    (no_fault was.progress.now.fault (sym c.is_some.ensures ∙ c.if-is_some.false)) c.transfer_line-line.ensures c.write.ensures.puts counts c.write.ensures.flags left c.write.ensures.name
