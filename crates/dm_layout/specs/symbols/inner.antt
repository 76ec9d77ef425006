-- Definitions that the contracts and the invariants of private functions and types cite, and the views and invariants
-- of public types; no contract of a public function and no law does.
pub mod Keeping
pub mod Drawing
pub mod Reading
pub mod Widths
pub mod Widened
pub mod Slots
pub mod Pairs
pub mod Laying
pub mod BorderMasks
pub mod RowDrawing
pub mod SizeRows
