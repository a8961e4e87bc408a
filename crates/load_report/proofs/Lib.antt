-- what is reported of hosts
pub mod HostReports
-- what is reported of intervals
pub mod Lines
-- what a hole of eight places writes
mod Holes
-- the lines of hosts, one after the other
mod AccountLines
-- the sums of sites, one after another
mod SiteSums
