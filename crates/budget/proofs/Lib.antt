pub mod Keeps
pub mod Enrolling
pub mod TallySteps
pub mod LinkSteps
pub mod HoldersSteps
pub mod Queues
pub mod Totals
pub mod Sums
