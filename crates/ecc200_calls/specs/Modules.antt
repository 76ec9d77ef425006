-- Modules as lists of numbers, one for each module, row by row from the top.
use Rattle.std.specs.Prelude.{◌≡◌, ◌≢◌, ℕ, ◌*◌, Bool, not, nat_eq, if◌then◌else◌, List, [], map, flat_map, length}
use Rattle.std.specs.Prelude.{Option, Some, None, IsNone}
use Rattle.dm_layout.specs.symbols.Sizes.{entry_with}
use Rattle.dm_layout.specs.symbols.Symbols.{SymbolView, rows_of}
use Rattle.ecc200_calls.specs.declared.fault.Fault.{Fault}
use Rattle.ecc200_calls.specs.Faults.{fault}

-- The number of a module is 1 where it is dark, and else 0.
abbrev pub module_of : Bool → ℕ
module_of dark = if dark then 1 else 0

-- The modules of a symbol are those of its rows, one row after the other.
abbrev pub modules_of : SymbolView → List ℕ
modules_of symbol = flat_map (map module_of) symbol.rows

-- Where a number is given for each module, any number but 0 stands for a dark one.
abbrev pub is_dark_number : ℕ → Bool
is_dark_number number = not (nat_eq number 0)

-- These are the modules of the symbol, whose size has these rows and columns.
pub record AreModulesOf (rows columns : ℕ) (modules : List ℕ) (symbol : SymbolView) : Type 0 where
  pub count : length modules ≡ rows * columns
  pub size : entry_with rows columns ≡ Some symbol.size
  pub colours : symbol.rows ≡ rows_of rows columns (map is_dark_number modules)

-- No module is doubtful where no numbers are given; where some are, those modules are whose number isn't 0.
pub data AreDoubtful (rows columns : ℕ) (numbers : List ℕ) (doubtful : Option SymbolView) : Type 0 where
  none : numbers ≡ [] → doubtful ≡ None → AreDoubtful rows columns numbers doubtful
  some : (modules : SymbolView) → numbers ≢ [] → AreModulesOf rows columns numbers modules → doubtful ≡ Some modules
      → AreDoubtful rows columns numbers doubtful

-- Modules, and which of them are doubtful, make no symbol because there are not as many as the rows times the columns,
-- because no size has these, or because doubtful ones are given that aren't as many.
pub data IsGivenFault (rows columns : ℕ) (modules doubt : List ℕ) (why : Fault) : Type 0 where
  wrong_count : length modules ≢ rows * columns → why ≡ fault 3 0 0 → IsGivenFault rows columns modules doubt why
  no_size : length modules ≡ rows * columns → IsNone (entry_with rows columns) → why ≡ fault 4 rows columns
      → IsGivenFault rows columns modules doubt why
  of_doubt : (symbol : SymbolView) → AreModulesOf rows columns modules symbol → doubt ≢ []
      → length doubt ≢ rows * columns → why ≡ fault 19 0 0 → IsGivenFault rows columns modules doubt why
