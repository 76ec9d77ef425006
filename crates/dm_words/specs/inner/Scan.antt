-- How the private functions go through a list from the left, and which of its prefixes they take. The contracts of
-- private functions cite
-- these modules; no public contract and no law does.
pub mod Walk
pub mod Prefixes
pub mod Results
pub mod Lone
