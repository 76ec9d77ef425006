-- How a symbol is read, as numbers, and how many modules of its border may have the wrong colour.
use Rattle.std.specs.Prelude.{◌≡◌, ℕ, ◌+◌, ◌/◌, ◌<◌, ◌≤◌, All, List, nat_eq, if◌then◌else◌, Option, Some, None}
use Rattle.std.specs.Prelude.{Result, Ok, Err}
use Rattle.dm_symbol.specs.declared.BlockReading.{BlockReading}
use Rattle.dm_symbol.specs.declared.Dealing.{Dealing}
use Rattle.dm_symbol.specs.declared.Extent.{Extent}
use Rattle.dm_layout.specs.symbols.Symbols.{SymbolView}
use Rattle.dm_symbol.specs.Doubt.{sure_fault_count}
use Rattle.dm_symbol.specs.SymbolReading.{AreRestored, readings_by}
use Rattle.ecc200_calls.specs.declared.fault.Fault.{Fault}
use Rattle.ecc200_calls.specs.declared.scan.BorderLimit.{BorderLimit}
use Rattle.ecc200_calls.specs.declared.scan.BorderLimit.TheVariants.{Modules, Sure}
use Rattle.ecc200_calls.specs.declared.scan.Scan.{Scan}
use Rattle.ecc200_calls.specs.declared.scan.Sought.{Sought}
use Rattle.ecc200_calls.specs.Extents.{extent_of}
use Rattle.ecc200_calls.specs.Faults.{fault}
use Rattle.ecc200_calls.specs.Modules.{AreDoubtful, AreModulesOf, IsGivenFault}

-- ---- the numbers

-- The usual border limit of a symbol is an eighth of its rows and columns together, rounded down, by a rule of this
-- project: a quarter of the side of a square.
abbrev pub usual_limit : ℕ → ℕ → ℕ
usual_limit rows columns = (rows + columns) / 8

-- The number 0 stands for the usual border limit, 1 for as many border faults as are sure, as `IsLimit` says, 2 for any
-- number of them, since no symbol has more than 65,535, 3 for the limit that is given, and no other number for any.
abbrev pub limit_of : Scan → Option BorderLimit
limit_of scan =
    if nat_eq scan.limit 0 then Some (Modules (usual_limit scan.rows scan.columns))
    else (if nat_eq scan.limit 1 then Some Sure
    else (if nat_eq scan.limit 2 then Some (Modules 65535)
    else (if nat_eq scan.limit 3 then Some (Modules scan.border_limit) else None)))

-- The numbers ask for an extent and a border limit that there are; or it is said which of them there isn't, the extent
-- first.
abbrev pub sought_of : Scan → Result Sought Fault
sought_of scan =
    elim (extent_of scan.extent) [
      | None ↦ Err (fault 17 scan.extent 0)
      | Some extent ↦ elim (limit_of scan) [
        | None ↦ Err (fault 24 scan.limit 0)
        | Some limit ↦ Ok (record { rows = scan.rows; columns = scan.columns; extent = extent; limit = limit })
      ]
    ]

-- ---- the border limit

-- The words of a symbol are restored in an extent so that each block leaves a correction unused: two of its check
-- codewords.
pub record LeavesCorrections (extent : Extent) (symbol : SymbolView) (doubtful : Option SymbolView) : Type 0 where
  pub dealing : Dealing
  pub words : List ℕ
  pub codewords : List ℕ
  pub restored : AreRestored extent symbol doubtful dealing words codewords
  pub left : All (λ (block : BlockReading). 2 ≤ block.left) (readings_by dealing symbol.size doubtful words codewords)

-- So many modules of the border of a symbol, read in an extent with these modules doubtful, may have the wrong colour:
-- the number that is asked for; or, where as many as are sure may, as many as usual where there are no more, and where
-- there are more as many as there are, if each block leaves a correction unused, or else as many as usual. That this
-- shows the symbol to be one is a rule of this project.
pub data IsLimit (asked : BorderLimit) (extent : Extent) (symbol : SymbolView) (doubtful : Option SymbolView)
    (limit : ℕ) : Type 0 where
  given : asked ≡ Modules limit → IsLimit asked extent symbol doubtful limit
  few : asked ≡ Sure → sure_fault_count symbol doubtful ≤ usual_limit symbol.size.rows symbol.size.columns
      → limit ≡ usual_limit symbol.size.rows symbol.size.columns → IsLimit asked extent symbol doubtful limit
  sure : asked ≡ Sure → usual_limit symbol.size.rows symbol.size.columns < sure_fault_count symbol doubtful
      → LeavesCorrections extent symbol doubtful → limit ≡ sure_fault_count symbol doubtful
      → IsLimit asked extent symbol doubtful limit
  unsure : asked ≡ Sure → usual_limit symbol.size.rows symbol.size.columns < sure_fault_count symbol doubtful
      → (LeavesCorrections extent symbol doubtful → ⊥) → limit ≡ usual_limit symbol.size.rows symbol.size.columns
      → IsLimit asked extent symbol doubtful limit

-- ---- what is sought

-- For what is sought in these modules, some of them doubtful, is given why they make no symbol; or what there is to
-- give for their symbol at the border limit.
pub data SoughtResult (sought : Sought) (modules doubt : List ℕ) (Refused : Fault → Type 0)
    (Given : SymbolView → Option SymbolView → ℕ → Type 0) : Type 0 where
  not_given : (why : Fault) → IsGivenFault sought.rows sought.columns modules doubt why → Refused why
      → SoughtResult sought modules doubt Refused Given
  of_symbol : (symbol : SymbolView) (doubtful : Option SymbolView) (limit : ℕ)
      → AreModulesOf sought.rows sought.columns modules symbol
      → AreDoubtful sought.rows sought.columns doubt doubtful
      → IsLimit sought.limit sought.extent symbol doubtful limit → Given symbol doubtful limit
      → SoughtResult sought modules doubt Refused Given
