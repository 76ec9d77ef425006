pub mod Heads
pub mod PlaceSteps
pub mod UnpackedCells
pub mod Designators
pub mod Given
pub mod Rooms
pub mod Restored
