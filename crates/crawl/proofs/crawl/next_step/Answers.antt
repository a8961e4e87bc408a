-- The URLs that were read are begun.
use Rattle.std.proofs.Common.{◌≡◌, ◌∙◌, [], sym, rules}
use Rattle.std.proofs.lemmas.List.{nil_from_length}
use Rattle.crawl.specs.Crawling.{jobs_begun}
use Rattle.crawl.specs.Reading.{queue_shown}
use Rattle.crawl.specs.Written.{output_shown}
use Rattle.crawl.proofs.Finished.{end_idle, same_jobs}
use Rattle.crawl.proofs.crawl.next_step.Goals as goal

pub returns-in-Err-begin_urls-clause-steps : goal.returns-in-Err-begin_urls-clause-steps
returns-in-Err-begin_urls-clause-steps g c = λ crawl jobs results first at. c.in-Err-begin_urls.ensures.begins crawl jobs results first (g.R.Source.source c.read_urls.new.input).bytes (c.in_default.ensures.reads crawl jobs results first at)

pub returns-then-is_idle-clause-end : goal.returns-then-is_idle-clause-end
returns-then-is_idle-clause-end g c =
    let in_flight = c.begin_urls.new.output.progress.now.in_flight.items in
    end_idle c.idle_step.result _ _ (queue_shown c.begin_urls.new.queue) in_flight (nil_from_length in_flight (search (rules, c.is_idle.ensures, c.if-is_idle.true))) c.idle_step.ensures.end

pub returns-then-is_idle-clause-steps : goal.returns-then-is_idle-clause-steps
returns-then-is_idle-clause-steps g c = λ crawl jobs results first at. (
    let is = c.begin_urls.new.output in
    let none : is.progress.now.in_flight.items ≡ [] = nil_from_length is.progress.now.in_flight.items (search (rules, c.is_idle.ensures, c.if-is_idle.true)) in
    let source = (g.R.Source.source c.read_urls.new.input).bytes in
    same_jobs c.in-Ok.jobs.items (jobs_begun c.idle_step.result) jobs crawl results first source (queue_shown c.begin_urls.new.queue) (output_shown is.progress.now (g.W.Sink.sink is.output.now) is.output.ghost_name)
    (c.in-Ok.ensures.idle none ∙ sym c.idle_step.ensures.none) (c.in-Ok.ensures.begins crawl jobs results first source (c.in_default.ensures.reads crawl jobs results first at)))
