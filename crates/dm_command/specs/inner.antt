-- Definitions that the contracts of private functions cite; no public contract and no law does.
pub mod CommandReads
