pub mod CommandLine
pub mod Endings
pub mod Statuses
pub mod inner
