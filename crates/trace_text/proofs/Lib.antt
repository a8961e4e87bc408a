-- the first entries of a log
pub mod Fronts
-- what is written, line after line
pub mod Written
-- what is held, and by whom
pub mod Holdings
-- lines, one after the other
pub mod HostLogs
