use Rattle.cache.proofs.Replies.{acquire_starts_or_waits}
use Rattle.cache.proofs.ReplyEntries.{acquire_gives_its_start, acquire_has_it_wait}
use Rattle.cache.proofs.laws.acquires_start_or_wait.Goals as goal

pub returns-clause-reply : goal.returns-clause-reply
returns-clause-reply c = acquire_starts_or_waits

pub returns-clause-start : goal.returns-clause-start
returns-clause-start c = acquire_gives_its_start

pub returns-clause-wait : goal.returns-clause-wait
returns-clause-wait c = acquire_has_it_wait
