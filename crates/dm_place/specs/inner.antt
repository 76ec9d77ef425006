-- Definitions that the contracts and the invariants of private functions and types cite, and the view of a public type;
-- no contract of a public function and no law does.
pub mod Walking
