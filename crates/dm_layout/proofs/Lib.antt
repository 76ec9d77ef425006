mod Names
mod TableRows
mod Squares
mod SquareSizes
mod KeptSymbols
mod PackedRows
mod PlacementRows
mod BlockLemmas
mod GridLemmas
mod SymbolLines
mod OneKind
pub mod Exported
