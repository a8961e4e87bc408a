-- A crawl ends with the result of its steps.
use Rattle.std.proofs.Common.{◌∙◌, refl, subst, sym, [], None}
use Rattle.crawl.specs.Crawling.{Crawls, crawl_given, queue_given}
use Rattle.crawl.specs.Reading.{queue_shown}
use Rattle.crawl.specs.Written.{output_shown}
use Rattle.crawl.specs.declared.output.Output.{Output}
use Rattle.crawl.proofs.Finished.{ends_so, never_opened}
use Rattle.crawl.proofs.Positions.{at_first, at_same}
use Rattle.crawl.proofs.Taken.{name_all, shown_all}
use Rattle.crawl.proofs.crawl.Crawl.run.Goals as goal

pub returns-in-Err : goal.returns-in-Err
returns-in-Err g c = record {
  crawls = never_opened g.N.Crawler.Crawler.crawled g.N.Crawler.Crawler.finished (crawl_given c.args.self (g.R.Source.source c.args.input.now).bytes) (g.W.Sink.sink c.args.output.now) c.unopened.result c.in-Err.fault c.unopened.ensures.tally c.unopened.ensures.fault;
}

pub returns : goal.returns
returns g c =
    let finishes = c.finish-finished.ensures in
    let sink = g.W.Sink.sink in
    let mid = c.fetch_urls-ended.new.output in
    let last = c.finish-finished.new.results in
    let crawl = crawl_given c.args.self (g.R.Source.source c.args.input.now).bytes in
    let first = sink c.args.output.now in
    let start = output_shown (record { flags = c.args.self.options.flags; in_flight = c.new.result; tally = record { lines = 0; failed = 0 }; fault = None }) first c.lines-1.given in
    let took = shown_all (λ (o : Output g.row.W.Denot g.W.Sink). output_shown o.progress.now (sink o.output.now) o.output.ghost_name) finishes.0 mid last finishes.2 in
    let name = name_all finishes.0 _ _ took ∙ c.fetch_urls-ended.ensures.same in
    let begun = at_same crawl [] [] first crawl.bytes (queue_given crawl) (queue_shown c.new-2.result) start (c.new-2.ensures.shown crawl.bytes) (at_first crawl start refl c.new.ensures.items refl refl) in
    let ends = ends_so g.N.Crawler.Crawler.crawled g.N.Crawler.Crawler.finished crawl first (output_shown mid.progress.now (sink mid.output.now) mid.output.ghost_name) (output_shown last.progress.now (sink last.output.now) last.output.ghost_name) _ _ finishes.0
    (record { tally = last.progress.now.tally; fault = c.fault_of.result }) (c.fetch_urls-ended.ensures.fetches crawl first begun) finishes.1 took refl c.fault_of.ensures.line c.fault_of.ensures.whole c.fault_of.ensures.failed_read c.fault_of.ensures.bad_url in
    record {
      crawls = subst (λ (w : g.row.W.Denot). Crawls g.N.Crawler.Crawler.crawled g.N.Crawler.Crawler.finished crawl first (sink w) (record { tally = last.progress.now.tally; fault = c.fault_of.result })) (sym (c.output-1.given.1 (sym name))) ends;
    }
