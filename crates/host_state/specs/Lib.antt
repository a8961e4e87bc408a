pub mod Steps
pub mod Queue
pub mod Idle
pub mod State
pub mod Returning
-- what calls of one host answer, and what they do
-- the log after a call and its reply
pub mod Calls
-- what each call does as far as other hosts count it
pub mod Effects
-- how often each call asks the budget
pub mod Asks
-- the limit in force after each call, and the moment at which it acts
pub mod LimitsInForce
-- what a log tells beside connections: what was granted, whose acquires are halfway, what is counted
pub mod Grants
pub mod Bookings
pub mod Counts
-- how a lobby lists a host
pub mod Orders
-- in which order idle connections are closed
pub mod ClosingOrder
-- laws over all logs, and calls worked out
pub mod Laws
pub mod Worked
