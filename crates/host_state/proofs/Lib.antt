pub mod Order
pub mod Waits
pub mod Kept
pub mod Picking
pub mod Replaying
pub mod Transitions
pub mod Limits
pub mod TooOld
-- How is an acquire answered?
-- the newest idle connection is leased, with nothing else to be done before
pub mod LeasesAtOnce
-- what it comes to, as the log tells of each transfer
pub mod Outcomes
-- whose acquires are halfway
pub mod Bookings
-- once what is too old is closed none of it is left
pub mod TooOldCloses
-- of what want and moment it gives a start or a wait
pub mod RepliesInKind
-- the one idle for the longest is closed first
pub mod ClosingOrder
-- What is left when a use ends?
-- what is owed, and that there is room
pub mod EndsOfUses
-- whether the budget is asked to keep it
pub mod AsksToKeep
-- what the budget's part holds, and whether a permit was freed
pub mod FreedPermits
-- What holds of each log that a call leaves?
-- it is sound and quiet
pub mod Soundness
-- it grew from the log before
pub mod Growth
-- how many are open and idle, and who waits
pub mod Counts
-- the limit in force is the one before
pub mod LimitsInForce
-- what it tells of a transfer, entry by entry
pub mod Transfers
-- what a pass is told stands in it
pub mod Tellings
-- Which hosts are queued?
-- the host's mark after a call
pub mod Marks
-- when a host is queued, and how a lobby lists it
pub mod QueuedHosts
-- what becomes of another host's place
pub mod OtherHosts
