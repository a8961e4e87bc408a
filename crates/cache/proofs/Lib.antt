pub mod HostParts
pub mod OneHost
pub mod Calling
pub mod TrueStamps
pub mod LawfulHosts
pub mod Keeping
pub mod Turning
pub mod Claims
pub mod StreamsStay
pub mod Sums
pub mod Closing
pub mod Opening
pub mod Pruning
pub mod NewHosts
pub mod Limiting
pub mod HostSums
pub mod SameLog
pub mod CutHosts
pub mod Returning
pub mod TwoTries
pub mod LastTries
pub mod Reused
pub mod Booked
pub mod NoneQueued
pub mod Homes
pub mod AtHost
pub mod Refusals
pub mod PoolCalls
-- Are all hosts lawful after a call?
-- where the log of one of them changes
pub mod Lawfulness
-- hosts without connections are at rest
pub mod RestingHosts
-- as a transfer starts or waits
pub mod Acquires
-- as a lease or a ticket is spent
pub mod Spends
-- as too old connections are pruned, and a host's limit changes
pub mod PrunesAndLimits
-- each call only adds to logs
pub mod Growth
-- How is an acquire answered?
-- when it asks the budget for one connection more
pub mod BudgetRequests
-- what it comes to, by what the total answered
pub mod Starts
-- it comes to a start or a wait
pub mod Replies
-- what it replied stands in the logs
pub mod ReplyEntries
-- whoever gives back, abandons or withdraws has nothing after that
pub mod SpentTransfers
-- Which connection is the oldest of all?
-- it is its own host's oldest, and there is one where anything is idle
pub mod OldestOfAll
-- it is idle, and goes before each other idle connection
pub mod OldestIdle
-- a host's oldest is no earlier after a call that makes nothing idle
pub mod OldestStamps
-- what becomes of all hosts when it is closed
pub mod Evictions
-- Who is served, and who waits?
-- turns lead to rest
pub mod Turns
-- why a transfer waits at rest
pub mod Waits
-- hosts at which nothing is called are only served
pub mod Servings
pub mod ServingsElsewhere
-- which of two stamps is before the other, and the earliest of many
pub mod StampOrder
-- the first place of the earliest stamp
pub mod FirstPlaces
-- a stamp that is noted is no later than its host's oldest
pub mod NotedStamps
-- what stands at a tree's top
pub mod Tournaments
-- how a tree is played again from a leaf up
pub mod Replays
-- the earliest stamp is one of them, and none is before it
pub mod EarliestStamps
