-- A URL begins or waits.
use Rattle.std.proofs.Common.{refl}
use Rattle.crawl.proofs.Queues.{waiting_in_use, waiting_on}
use Rattle.crawl.proofs.queue.Queue.begin_or_wait.Goals as goal

pub returns-in_default-clause-begins : goal.returns-in_default-clause-begins
returns-in_default-clause-begins g c = waiting_on c.wait.result _ _ _ _ _ _ _ refl refl c.wait.ensures.waiting c.wait.ensures.jobs c.wait.ensures.transfers

pub returns-in_default-2 : goal.returns-in_default-2
returns-in_default-2 g c = record {
  can_go_on = c.place.ensures.can_go_on;
  begins = waiting_on c.wait-in_default-2.result _ _ _ _ _ _ _ refl refl c.wait-in_default-2.ensures.waiting c.wait-in_default-2.ensures.jobs c.wait-in_default-2.ensures.transfers;
  same = record { options = refl; file = refl; urls = refl; lines = refl; queued = refl; stop = refl };
  keeps = c.place.ensures.gives.keeps;
  in_use = waiting_in_use c.wait-in_default-2.result _ _ _ _ _ _ c.place.ensures.gives.keeps c.wait-in_default-2.ensures.transfers;
}
