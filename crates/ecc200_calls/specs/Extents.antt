-- Extents as numbers.
use Rattle.std.specs.Prelude.{ℕ, nat_eq, if◌then◌else◌, Option, Some, None}
use Rattle.dm_symbol.specs.declared.Extent.{Extent}
use Rattle.dm_symbol.specs.declared.Extent.TheVariants.{Usual, Wide}

-- The number 0 stands for the extent `Wide`, 1 for `Usual`, and no other number for any.
abbrev pub extent_of : ℕ → Option Extent
extent_of number = if nat_eq number 0 then Some Wide else (if nat_eq number 1 then Some Usual else None)
