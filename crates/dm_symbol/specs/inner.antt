-- Definitions that the contracts of private functions cite, and no contract of a public function.
pub mod Marks
pub mod Restoring
pub mod Turns
pub mod Showing
