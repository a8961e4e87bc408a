-- Transfers begin.
use Rattle.std.proofs.Common.{◌∙◌, ◌≤◌, ◌-◌, ap, length, subst}
use Rattle.crawl.specs.Reading.{queue_shown}
use Rattle.crawl.specs.Written.{output_shown}
use Rattle.crawl.proofs.Finished.{no_jobs}
use Rattle.crawl.proofs.Positions.{at_begins, at_same}
use Rattle.crawl.proofs.crawl.begin_urls.Goals as goal

pub returns-in-Ok-begin-clause-idle : goal.returns-in-Ok-begin-clause-idle
returns-in-Ok-begin-clause-idle g c =
    λ none. no_jobs c.mark_in_flight.new.self.options c.in-Ok.batch.jobs.items c.args.output.now.progress.now.in_flight.items c.in-Ok.batch.transfers.items c.begin.new.self.progress.now.in_flight.items c.in-Ok-begin.ensures.begins.in_flight c.in-Ok.ensures.jobs none

pub returns-in-Ok-begin-clause-begins : goal.returns-in-Ok-begin-clause-begins
returns-in-Ok-begin-clause-begins g c = λ crawl jobs results first source at. (
    let was = c.args.output.now in
    let is = c.begin.new.self in
    let before = output_shown was.progress.now (g.W.Sink.sink was.output.now) was.output.ghost_name in
    let after = output_shown is.progress.now (g.W.Sink.sink is.output.now) is.output.ghost_name in
    let batch = c.in-Ok.batch in
    let mid = c.mark_in_flight.new.self in
    let flying = was.progress.now.in_flight in
    let marked = at_same crawl jobs results first source (queue_shown c.args.queue.now) (queue_shown mid) before c.mark_in_flight.ensures.same at in
    let room : length batch.transfers.items ≤ mid.options.parallel - length flying.items =
    subst (λ n. length batch.transfers.items ≤ n) (c.room-free.ensures ∙ ap (λ n. mid.options.parallel - n) (c.len.ensures ∙ flying.ok.0)) c.in-Ok.ensures.few in
    at_begins crawl jobs batch.jobs.items results first source batch.transfers.items (queue_shown mid) (queue_shown c.batch.new.self) before after marked c.in-Ok.ensures.takes c.in-Ok.ensures.jobs c.in-Ok.ensures.numbers c.in-Ok-begin.ensures.begins room)
