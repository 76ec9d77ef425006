-- The marks of a symbol: the codewords that its doubtful modules hold. One isn't 0 where the codeword at its place is
-- erased.
use Rattle.std.specs.Prelude.{ℕ, Bool, not, nat_eq, List, [], map, Option, Some, None}
use Rattle.dm_code.specs.Erased.{erased_places_from}
use Rattle.dm_layout.specs.symbols.Sizes.{SizeEntry}
use Rattle.dm_layout.specs.symbols.Blocks.{block_of}

-- A mark says that its codeword is erased.
abbrev pub is_mark : ℕ → Bool
is_mark word = not (nat_eq word 0)

-- The places of block b are erased that have a mark; none is where there are no marks.
abbrev pub marked_in : SizeEntry → Option (List ℕ) → ℕ → List ℕ
marked_in size None b = []
marked_in size (Some marks) b = erased_places_from 0 (map is_mark (block_of size.blocks b marks))
