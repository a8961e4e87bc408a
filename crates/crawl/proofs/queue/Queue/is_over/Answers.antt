-- At a bad URL, the queue holds this URL alone.
use Rattle.std.proofs.Common.{◌≡◌, ◌∙◌, [], ap, refl, length, subst, sym, arith}
use Rattle.std.specs.Prelude.{Option, Some}
use Rattle.crawl.specs.Crawling.{LeavesUrls}
use Rattle.crawl.specs.Reading.{queue_shown}
use Rattle.crawl.specs.declared.fault.CrawlFault.{CrawlFault}
use Rattle.crawl.specs.declared.fault.CrawlFault.TheVariants as faults
use Rattle.crawl.proofs.Queues.{leaves_bad}
use Rattle.crawl.proofs.queue.Queue.is_over.Goals as goal

pub returns-then-len-eq1 : goal.returns-then-len-eq1
returns-then-len-eq1 c = λ bad. (
    let queue = c.args.self.now in
    let fault = rw c.in-Some-BadUrl.is at c.in-Some-BadUrl.field-0-is in
    let stop : queue.stop ≡ Some (faults.BadUrl c.in-Some-BadUrl.field-0-0) = c.in-Some-BadUrl.is ∙ ap (λ (fault : CrawlFault). Some fault) fault in
    let one : length queue.queued.items ≡ 1 = omega (arith, c.len.ensures, c.if-len-eq1.true) in
    subst (λ (fault : Option CrawlFault). LeavesUrls fault (queue_shown queue) []) (sym stop) (leaves_bad (queue_shown queue) queue.queued.items refl one (c.is_bad_at.ensures bad)))
