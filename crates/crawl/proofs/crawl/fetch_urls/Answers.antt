-- URLs are fetched step by step.
use Rattle.std.proofs.Common.{◌∙◌, ap, sym, subst}
use Rattle.std.specs.Prelude.{IfErr, Option}
use Rattle.crawl.specs.Crawling.{LeavesUrls, jobs_begun}
use Rattle.crawl.specs.Faults.{CanEnd}
use Rattle.crawl.specs.Reading.{queue_shown}
use Rattle.crawl.specs.Written.{output_shown}
use Rattle.crawl.specs.declared.crawl.Step.TheVariants.{Read, End}
use Rattle.crawl.specs.declared.fault.CrawlFault.{CrawlFault}
use Rattle.crawl.specs.declared.output.Output.{Output}
use Rattle.commands.specs.declared.crawl_options.CrawlOptions.{CrawlOptions}
use Rattle.crawl.proofs.Finished.{end_from, fault_is, fetched_here, fetches_begun, step_from, stopped_here}
use Rattle.crawl.proofs.Taken.{name_all, took_shown}
use Rattle.crawl.proofs.crawl.fetch_urls.Goals as goal

pub loop-preserved-in-Ok-Read : goal.loop-preserved-in-Ok-Read
loop-preserved-in-Ok-Read g c =
    let so_far = c.loop.invariant in
    let is = c.next_step.new.output in
    record {
      counts = c.in-Ok-Read.ensures.counts_on;
      can_go_on = c.next_step.ensures.can_go_on;
      same = c.next_step.ensures.same ∙ so_far.same;
      at = λ crawl first at. (
          let f = so_far.at crawl first at in
          record {
            jobs = f.jobs;
            results = f.results;
            ran = f.ran;
            at = step_from c.in-Ok-Read.field-0 Read crawl f.jobs f.results first (g.R.Source.source c.next_step.new.input).bytes (queue_shown c.next_step.new.queue) (output_shown is.progress.now (g.W.Sink.sink is.output.now) is.output.ghost_name) c.in-Ok-Read.field-0-is
                (c.in-Ok-Read.ensures.steps crawl f.jobs f.results first f.at);
          });
    }

pub returns-in-Ok-End-clause-fetches : goal.returns-in-Ok-End-clause-fetches
returns-in-Ok-End-clause-fetches g c = λ crawl first at. (
    let f = c.loop.invariant.at crawl first at in
    let is = c.next_step.new.output in
    let queue = queue_shown c.next_step.new.queue in
    let now = output_shown is.progress.now (g.W.Sink.sink is.output.now) is.output.ghost_name in
    let at' = step_from c.in-Ok-End.field-0 End crawl f.jobs f.results first (g.R.Source.source c.next_step.new.input).bytes queue now c.in-Ok-End.field-0-is (c.in-Ok-End.ensures.steps crawl f.jobs f.results first f.at) in
    let over = end_from c.in-Ok-End.field-0 End _ c.in-Ok-End.field-0-is c.in-Ok-End.ensures.end in
    fetched_here g.C.Crawler.crawled crawl first (g.R.Source.source c.next_step.new.input).bytes queue now _ (record { jobs = f.jobs; results = f.results; ran = f.ran; at = at' })
    (λ none. subst (λ (stop : Option CrawlFault). LeavesUrls stop queue is.progress.now.in_flight.items) (sym c.end.ensures.stop) (over none))
    (subst (λ (o : CrawlOptions). IfErr c.end.result (CanEnd o)) at'.options c.end.ensures.fault))

pub returns-in-Err-clause-fetches : goal.returns-in-Err-clause-fetches
returns-in-Err-clause-fetches g c = λ crawl first at. (
    let f = c.loop.invariant.at crawl first at in
    let is = c.next_step.new.output in
    stopped_here g.C.Crawler.crawled crawl first f.jobs f.results (output_shown is.progress.now (g.W.Sink.sink is.output.now) is.output.ghost_name) _ f.ran (c.in-Err.ensures.steps crawl f.jobs f.results first f.at) c.in-Err.ensures.fault)

pub returns-in-Err-crawl-clause-same : goal.returns-in-Err-crawl-clause-same
returns-in-Err-crawl-clause-same g c =
    let takes = took_shown (λ (o : Output g.row.W.Denot g.W.Sink). output_shown o.progress.now (g.W.Sink.sink o.output.now) o.output.ghost_name) (g.C.Crawler.crawled c.next_step.new.crawler c.crawl.new.self c.as_slice.result.now) c.next_step.new.output c.crawl.new.results c.crawl.ensures.takes in
    name_all takes.0 _ _ takes.2 ∙ c.next_step.ensures.same ∙ c.loop.invariant.same

pub returns-in-Err-crawl-clause-fetches : goal.returns-in-Err-crawl-clause-fetches
returns-in-Err-crawl-clause-fetches g c = λ crawl first at. (
    let f = c.loop.invariant.at crawl first at in
    let was = c.next_step.new.output in
    let is = c.crawl.new.results in
    let takes = took_shown (λ (o : Output g.row.W.Denot g.W.Sink). output_shown o.progress.now (g.W.Sink.sink o.output.now) o.output.ghost_name) (g.C.Crawler.crawled c.next_step.new.crawler c.crawl.new.self c.as_slice.result.now) was is c.crawl.ensures.takes in
    let queue = queue_shown c.next_step.new.queue in
    let mid = output_shown was.progress.now (g.W.Sink.sink was.output.now) was.output.ghost_name in
    let now = output_shown is.progress.now (g.W.Sink.sink is.output.now) is.output.ghost_name in
    let on = fetches_begun g.C.Crawler.crawled crawl first c.next_step.new.crawler c.crawl.new.self c.in-Ok-Fetch.field-0 c.as_slice.result.now f.jobs f.results (g.R.Source.source c.next_step.new.input).bytes queue mid now f.ran
    (ap jobs_begun c.in-Ok-Fetch.field-0-is ∙ sym c.as_slice.ensures.value) (c.in-Ok-Fetch.ensures.steps crawl f.jobs f.results first f.at) takes in
    stopped_here g.C.Crawler.crawled crawl first on.jobs on.results now _ on.ran ((g.R.Source.source c.next_step.new.input).bytes, queue, on.at) tt)

pub returns-then-is_some-clause-same : goal.returns-then-is_some-clause-same
returns-then-is_some-clause-same g c =
    let takes = took_shown (λ (o : Output g.row.W.Denot g.W.Sink). output_shown o.progress.now (g.W.Sink.sink o.output.now) o.output.ghost_name) (g.C.Crawler.crawled c.next_step.new.crawler c.crawl.new.self c.as_slice.result.now) c.next_step.new.output c.crawl.new.results c.crawl.ensures.takes in
    name_all takes.0 _ _ takes.2 ∙ c.next_step.ensures.same ∙ c.loop.invariant.same

pub returns-then-is_some-clause-fetches : goal.returns-then-is_some-clause-fetches
returns-then-is_some-clause-fetches g c = λ crawl first at. (
    let f = c.loop.invariant.at crawl first at in
    let was = c.next_step.new.output in
    let is = c.crawl.new.results in
    let takes = took_shown (λ (o : Output g.row.W.Denot g.W.Sink). output_shown o.progress.now (g.W.Sink.sink o.output.now) o.output.ghost_name) (g.C.Crawler.crawled c.next_step.new.crawler c.crawl.new.self c.as_slice.result.now) was is c.crawl.ensures.takes in
    let queue = queue_shown c.next_step.new.queue in
    let mid = output_shown was.progress.now (g.W.Sink.sink was.output.now) was.output.ghost_name in
    let now = output_shown is.progress.now (g.W.Sink.sink is.output.now) is.output.ghost_name in
    let on = fetches_begun g.C.Crawler.crawled crawl first c.next_step.new.crawler c.crawl.new.self c.in-Ok-Fetch.field-0 c.as_slice.result.now f.jobs f.results (g.R.Source.source c.next_step.new.input).bytes queue mid now f.ran
    (ap jobs_begun c.in-Ok-Fetch.field-0-is ∙ sym c.as_slice.ensures.value) (c.in-Ok-Fetch.ensures.steps crawl f.jobs f.results first f.at) takes in
    fetched_here g.C.Crawler.crawled crawl first (g.R.Source.source c.next_step.new.input).bytes queue now _ on (λ none. fault_is is.progress.now.fault _ (sym c.is_some.ensures ∙ c.if-is_some.true) none) tt)

pub loop-preserved : goal.loop-preserved
loop-preserved g c =
    let so_far = c.loop.invariant in
    let was = c.next_step.new.output in
    let is = c.crawl.new.results in
    let takes = took_shown (λ (o : Output g.row.W.Denot g.W.Sink). output_shown o.progress.now (g.W.Sink.sink o.output.now) o.output.ghost_name) (g.C.Crawler.crawled c.next_step.new.crawler c.crawl.new.self c.as_slice.result.now) was is c.crawl.ensures.takes in
    record {
      counts = c.in-Ok-Fetch.ensures.counts_on;
      can_go_on = c.crawl.ensures.can_go_on;
      same = name_all takes.0 _ _ takes.2 ∙ c.next_step.ensures.same ∙ so_far.same;
      at = λ crawl first at. (
          let f = so_far.at crawl first at in
          let queue = queue_shown c.next_step.new.queue in
          let mid = output_shown was.progress.now (g.W.Sink.sink was.output.now) was.output.ghost_name in
          let now = output_shown is.progress.now (g.W.Sink.sink is.output.now) is.output.ghost_name in
          fetches_begun g.C.Crawler.crawled crawl first c.next_step.new.crawler c.crawl.new.self c.in-Ok-Fetch.field-0 c.as_slice.result.now f.jobs f.results (g.R.Source.source c.next_step.new.input).bytes queue mid now f.ran
          (ap jobs_begun c.in-Ok-Fetch.field-0-is ∙ sym c.as_slice.ensures.value) (c.in-Ok-Fetch.ensures.steps crawl f.jobs f.results first f.at) takes);
    }

pub returns-clause-fetches : goal.returns-clause-fetches
returns-clause-fetches g c = λ crawl first at. (
    let f = c.loop.invariant.at crawl first at in
    let is = c.loop.output in
    stopped_here g.C.Crawler.crawled crawl first f.jobs f.results (output_shown is.progress.now (g.W.Sink.sink is.output.now) is.output.ghost_name) _ f.ran ((g.R.Source.source c.loop.input).bytes, queue_shown c.loop.queue, f.at) tt)
