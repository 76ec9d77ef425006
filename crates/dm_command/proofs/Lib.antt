pub mod CommandWalks
pub mod CommandNumbers
pub mod CommandMatches
pub mod CommandNames
pub mod CommandTasks
pub mod Statuses
