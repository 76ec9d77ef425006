-- Definitions that the contracts of private functions cite; no contract of a public function and no law does.
pub mod Scan
pub mod Costs
pub mod CostLanes
pub mod Written
pub mod Ways
pub mod Fnc1
pub mod Signs
pub mod Held
pub mod ContentScan
pub mod ContentsAt
pub mod MarkedForms
pub mod ContentCosts
