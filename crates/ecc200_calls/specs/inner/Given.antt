-- What is known of the modules that are given to a call.
use Rattle.std.specs.Prelude.{◌≡◌, ◌≢◌, ℕ, ◌<◌, Bool, true, false, List, [], length, get_or, Option, Some, None}
use Rattle.dm_layout.specs.symbols.Sizes.{SizeEntry, area, entry_with}
use Rattle.dm_layout.specs.symbols.Symbols.{SymbolView}
use Rattle.ecc200_calls.specs.Modules.{AreModulesOf}

-- All of these numbers are 0.
abbrev pub AreZero : List ℕ → Type 0
AreZero numbers = (k : ℕ) → k < length numbers → get_or numbers k 0 ≡ 0

-- The modules are those of a symbol of this size, which has these rows and columns. Some of them are doubtful by as
-- many numbers; or none is, since there are no such numbers, or as many, and all are 0.
pub record IsKnown (rows columns : ℕ) (modules doubt : List ℕ) (size : SizeEntry) (some : Bool) : Type 0 where
  pub entry : entry_with rows columns ≡ Some size
  pub rows_are : size.rows ≡ rows
  pub columns_are : size.columns ≡ columns
  pub count : length modules ≡ area size
  pub doubt_count : doubt ≢ [] → length doubt ≡ area size
  pub doubtful : some ≡ true → doubt ≢ []
  pub sure : some ≡ false → AreZero doubt

-- This is so of the symbol of these modules, and of the doubtful ones of them by these numbers, where some are.
pub data IsOfGiven (size : SizeEntry) (modules doubt : List ℕ) (some : Bool)
    (Result : SymbolView → Option SymbolView → Type 0) : Type 0 where
  sure : (symbol : SymbolView) → some ≡ false → AreModulesOf size.rows size.columns modules symbol
      → Result symbol None → IsOfGiven size modules doubt some Result
  doubted : (symbol doubtful : SymbolView) → some ≡ true → AreModulesOf size.rows size.columns modules symbol
      → AreModulesOf size.rows size.columns doubt doubtful → Result symbol (Some doubtful)
      → IsOfGiven size modules doubt some Result
