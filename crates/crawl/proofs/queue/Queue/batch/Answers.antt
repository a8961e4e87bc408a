-- URLs begin or wait, one after another.
use Rattle.std.proofs.Common.{refl, rules, ◌∙◌, ap, sym, subst, List, ℕ}
use Rattle.std.specs.Prelude.{Bool}
use Rattle.crawl.specs.Hosts.{AreInUse}
use Rattle.crawl.specs.Reading.{url_queued}
use Rattle.crawl.specs.Batches.{BeginsOrWaits}
use Rattle.crawl.specs.declared.queued.Queued.{Queued}
use Rattle.commands.specs.declared.crawl_options.CrawlOptions.{CrawlOptions}
use Rattle.crawl.proofs.Places.{keeps_all, keeps_past}
use Rattle.crawl.proofs.Queues.{IsBatch, batch_none, batch_on}
use Rattle.crawl.proofs.queue.Queue.batch.Goals as goal

pub loop-one-init : goal.loop-one-init
loop-one-init g c = record {
  can_go_on = c.requires.can_go_on;
  is = batch_none c.args.self.now.options c.args.self.now.queued.items c.args.free c.args.self.now.number c.new-batch.result c.args.self.now.queued.items refl c.new-batch.ensures.jobs c.new-batch.ensures.transfers c.new-batch.ensures.waiting;
  options = refl;
  file = refl;
  urls = refl;
  stop = refl;
  lines = refl;
  keeps = keeps_all c.args.self.now.hosts.table c.args.self.now.hosts.in_use.items;
  in_use = search rules;
}

pub loop-one-preserved : goal.loop-one-preserved
loop-one-preserved g c =
    let first = c.args.self.now in
    let was = c.loop-one.self in
    let mid = c.next.new.self in
    let last = c.begin_or_wait.new.self in
    let so_far = c.loop-one.invariant in
    let same = c.next.ensures.same in
    let sorts = subst (λ (o : CrawlOptions). BeginsOrWaits o (url_queued c.in-Some.one) was.number last.number c.loop-one.batch c.begin_or_wait.new.batch) (same.options ∙ so_far.options)
    (subst (λ (n : ℕ). BeginsOrWaits mid.options (url_queued c.in-Some.one) n last.number c.loop-one.batch c.begin_or_wait.new.batch) same.number c.in_ok-begin_or_wait.ensures.begins) in
    let is = batch_on first.options first.queued.items c.args.free first.number c.loop-one.batch c.begin_or_wait.new.batch c.in-Some.one was.queued.items mid.queued.items was.number last.number c.in-Some.ensures.takes so_far.is
    (λ p. c.in-Some.ensures.first (ap (λ (o : CrawlOptions). o.parallel) so_far.options ∙ p)) c.in-Some.ensures.room sorts in
    record {
      can_go_on = c.begin_or_wait.ensures.can_go_on;
      is = subst (λ (queued : List Queued). IsBatch first.options first.queued.items c.args.free first.number c.begin_or_wait.new.batch queued last.number) (sym c.begin_or_wait.ensures.same.queued) is;
      options = c.begin_or_wait.ensures.same.options ∙ same.options ∙ so_far.options;
      file = c.begin_or_wait.ensures.same.file ∙ same.file ∙ so_far.file;
      stop = c.begin_or_wait.ensures.same.stop ∙ same.stop ∙ so_far.stop;
      urls = c.begin_or_wait.ensures.same.urls ∙ same.urls ∙ so_far.urls;
      lines = c.begin_or_wait.ensures.same.lines ∙ same.lines ∙ so_far.lines;
      keeps = keeps_past first.hosts.table was.hosts.table mid.hosts.table last.hosts.table first.hosts.in_use.items was.hosts.in_use.items mid.hosts.in_use.items last.hosts.in_use.items same.hosts.table same.hosts.in_use so_far.keeps c.begin_or_wait.ensures.keeps;
      in_use = c.in_ok-begin_or_wait.ensures.in_use (subst (λ (in_use : List Bool). AreInUse in_use c.loop-one.batch.transfers.items) (sym same.hosts.in_use) so_far.in_use);
    }
