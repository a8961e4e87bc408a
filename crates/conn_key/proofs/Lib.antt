pub mod SitesLemmas
pub mod UrlLemmas
-- the first place at which a test passes
pub mod Positions
-- keys in a set, and their order
pub mod KeysInSets
-- what giving a place keeps
pub mod GivingLemmas
-- what each arm of giving a place answers
pub mod PlaceArms
