-- those of a plan are as their locks' types say
pub mod NewHosts
-- those that may be gathered add up
pub mod SettledHosts
-- each is pruned once
pub mod PrunedHosts
-- the first that is queued is one of them
pub mod QueuedHosts
-- a new pass is enrolled at each
pub mod NewPasses
-- a limit is changed at a moment that is not before the one handed in
pub mod ChangedLimits
-- a host is listed exactly if a transfer waits there beside room
pub mod ListedHosts
