-- The sizes as the code keeps them to look for one.
use Rattle.std.specs.Prelude.{ℕ, Bool, ◌&&◌, List, nat_eq, get_or}
use Rattle.dm_layout.specs.declared.symbols.size.SizeChoice.{SizeChoice}
use Rattle.dm_layout.specs.symbols.Sizes.{SizeEntry, entry_of, takes}

-- The size with ten such numbers.
abbrev pub row_entry : List ℕ → SizeEntry
row_entry row =
    entry_of (get_or row 0 0) (get_or row 1 0) (get_or row 2 0) (get_or row 3 0) (get_or row 4 0) (get_or row 5 0)
    (get_or row 6 0) (get_or row 7 0) (get_or row 8 0) (nat_eq (get_or row 9 0) 1)

-- Whether a choice takes a size, of which these rows and columns, and whether it is one of the extension, tell enough.
abbrev pub takes_sides : SizeChoice → ℕ → ℕ → Bool → Bool
takes_sides choice rows columns extended = takes choice (entry_of rows columns 0 0 0 0 0 0 0 extended)

-- A size has these rows and columns.
abbrev pub has_sides : ℕ → ℕ → SizeEntry → Bool
has_sides rows columns size = nat_eq size.rows rows && nat_eq size.columns columns
