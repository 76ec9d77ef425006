-- What is defined of symbols of all sizes, squares and rectangles; what stands beside this folder is of squares.
pub mod Sizes
pub mod Words
pub mod Blocks
pub mod Symbols
pub mod Border
pub mod SureFaults
pub mod Holding
pub mod Equality
pub mod inner
