-- The lines of bad URLs are written one after another.
use Rattle.std.proofs.Common.{◌∙◌, ap, refl, subst, sym, List, ℕ}
use Rattle.crawl.specs.Reading.{queue_shown}
use Rattle.crawl.specs.Written.{WritesBad, output_shown}
use Rattle.commands.specs.declared.crawl_options.CrawlOptions.{CrawlOptions}
use Rattle.crawl.proofs.Positions.{at_bad, at_same}
use Rattle.crawl.proofs.crawl.put_bad_urls.Goals as goal

pub loop-url-init : goal.loop-url-init
loop-url-init g c = record { same = refl; stop = refl; in_flight = refl; at = λ crawl jobs results first source at. at }

pub loop-url-preserved : goal.loop-url-preserved
loop-url-preserved g c =
    let queue = c.loop-url.queue in
    let output = c.loop-url.output in
    let left = c.next_bad.new.queue in
    let now = c.put_bad.new.self in
    let before = output_shown output.progress.now (g.W.Sink.sink output.output.now) output.output.ghost_name in
    let after = output_shown now.progress.now (g.W.Sink.sink now.output.now) now.output.ghost_name in
    let writes = subst (λ (url : List ℕ). WritesBad url before after) c.as_str.ensures.value c.put_bad.ensures.writes in
    record {
      same = writes.writes.name ∙ c.loop-url.invariant.same;
      stop = c.next_bad.ensures.stop ∙ c.loop-url.invariant.stop;
      in_flight = writes.in_flight ∙ c.loop-url.invariant.in_flight;
      at = λ crawl jobs results first source at. (
          let was = c.loop-url.invariant.at crawl jobs results first source at in
          at_bad crawl jobs results first source _ (queue_shown queue) (queue_shown left) before after (sym (ap (λ (o : CrawlOptions). o.flags.skip_bad) was.options) ∙ c.in-Some.ensures.takes.skips) c.in-Some.ensures.takes.bad
          (λ p. c.loop-url.invariant.in_flight ∙ c.requires.idle (c.in-Some.ensures.takes.idle (ap (λ (o : CrawlOptions). o.parallel) was.options ∙ p))) was c.in-Some.ensures.takes.takes c.in-Some.ensures.takes.number writes);
    }

pub returns-clause-puts : goal.returns-clause-puts
returns-clause-puts g c = λ crawl jobs results first source at. (
    let output = c.loop-url.output in
    at_same crawl jobs results first source (queue_shown c.loop-url.queue) (queue_shown c.next_bad.new.queue) (output_shown output.progress.now (g.W.Sink.sink output.output.now) output.output.ghost_name)
    c.in_default.ensures.none (c.loop-url.invariant.at crawl jobs results first source at))
