use Rattle.std.proofs.Common.{length, All}
use Rattle.cache_trait.specs.Homes.{IsMadeBy}
use Rattle.cache.specs.PoolCalls.{home_of}
use Rattle.cache_tests.proofs.desk.withdraw_all.Given as goal

abbrev pub invariant-loop-ticket : goal.invariant-loop-ticket
invariant-loop-ticket g l = All (λ ticket. IsMadeBy (home_of l.pool) ticket.site ticket.tables) l.tickets.items

abbrev pub decreases-loop-ticket : goal.decreases-loop-ticket
decreases-loop-ticket g l = length l.tickets.items
