pub mod WaitersInOrder
pub mod Following
pub mod AllowedEvents
pub mod DueReturns
pub mod HostTotals
pub mod SettledHosts
