pub mod Sides
pub mod Border
pub mod Placement
pub mod Sweep
pub mod Holding
pub mod inner
