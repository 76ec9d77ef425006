-- Definitions that the contracts and the invariants of private functions and types cite; no public contract and no law
-- does.
pub mod KeptTexts
pub mod OpenLines
pub mod OpenRecords
pub mod AnsweredSoFar
pub mod Gathering
