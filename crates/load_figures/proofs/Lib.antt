-- lists that are joined place by place
pub mod Lists
-- what is counted, and reported, host by host
pub mod Hosts
-- intervals at their places
pub mod Places
-- how intervals are folded in place
pub mod Folds
-- how often intervals are folded
pub mod Foldings
-- each value is in its bucket, and buckets follow one another
pub mod BucketLemmas
-- the order of buckets is that of values
pub mod BucketOrder
-- counts after a value, and sums of counts
pub mod CountLemmas
-- what a tally tells of the values recorded
pub mod TallyLemmas
