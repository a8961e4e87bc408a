-- what a job's end means to a load
pub mod Outcomes
-- what is counted of jobs
pub mod Counts
-- what is counted in the intervals of a load
pub mod Intervals
-- what a worker of a load counts
pub mod Figures
pub mod Buckets
pub mod Tally
pub mod Percentiles
pub mod Laws
pub mod Worked
