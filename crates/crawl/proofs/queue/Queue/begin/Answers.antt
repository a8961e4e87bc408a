-- A transfer begins with the job of its URL.
use Rattle.std.proofs.Common.{refl}
use Rattle.crawl.proofs.Queues.{begun_in_use, begun_on}
use Rattle.crawl.proofs.queue.Queue.begin.Goals as goal

pub returns-clause-begins : goal.returns-clause-begins
returns-clause-begins c =
    begun_on c.add.result _ _ _ _ _ _ _ refl (record { want = c.want.ensures; method = refl; site = refl; target = c.requires.leads }) c.in-Some.ensures.1 c.add.ensures.jobs c.add.ensures.transfers c.add.ensures.waiting

pub returns-clause-in_use : goal.returns-clause-in_use
returns-clause-in_use c = begun_in_use c.add.result _ _ _ _ _ refl c.add.ensures.transfers
