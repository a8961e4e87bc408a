pub mod GrowthOfAll
pub mod Tickets
pub mod Leases
pub mod Answering
pub mod Spending
pub mod Ending
pub mod GivingUp
pub mod SpentAtSite
pub mod PooledSites
pub mod Turned
-- What do the lines of a transcript tell?
-- its text is put together from the lines of events and replies
pub mod EventLines
-- and gives these lines again
pub mod WholeLines
-- a line names its host
pub mod HostNames
-- the lines that begin with leased
pub mod LeaseLines
-- line by line it is the entries of its logs
pub mod Transcripts
-- What does a command do to all hosts?
-- it leaves them at rest
pub mod Lawfulness
-- how a host's log grows, and the lines of that
pub mod Growth
-- who waits and who holds at a site
pub mod Holdings
-- Whose tickets stand?
-- those of transfers that wait or have yet to claim
pub mod TicketHolders
-- who is among them
pub mod TicketLists
pub mod Running
pub mod Traces
