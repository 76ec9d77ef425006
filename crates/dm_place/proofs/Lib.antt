mod Ranges
mod Pointwise
mod SameShapes
mod FewerTests
mod SweepTest
mod SweptCells
mod SweptShapes
mod SweepEnds
mod TestedSweep
mod OnePlace
mod PlaceOrder
mod PlacementRows
mod FirstItem
mod Stepping
mod Bits
mod HeldWords
mod InsideShapes
pub mod Exported
