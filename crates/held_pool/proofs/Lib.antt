pub mod Nothing
pub mod DueAfter
pub mod DueCalls
pub mod ClaimedDue
pub mod EndedDue
