pub mod LinearSystem
pub mod OddTerms
pub mod Ones
pub mod Backwards
pub mod Lessened
