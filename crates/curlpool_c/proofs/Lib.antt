pub mod AsBox
-- the log that was told is the site's
pub mod Telling
-- cuts of one log after the other
pub mod Cuts
