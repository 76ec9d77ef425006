-- What the library gives for a symbol that is to be inspected.
use Rattle.std.specs.Prelude.{◌≡◌, ℕ, ◌<◌, List, [], map, get_or, length, Option, Some, None, IsSome}
use Rattle.dm_symbol.specs.declared.BlockReading.{BlockReading}
use Rattle.dm_symbol.specs.declared.SymbolInspectionIn.{SymbolInspectionIn}
use Rattle.dm_symbol.specs.declared.Mark.{Mark}
use Rattle.dm_layout.specs.symbols.Symbols.{SymbolView}
use Rattle.dm_layout.specs.symbols.Words.{data_of}
use Rattle.dm_words.specs.Designations.{AreDesignations}
use Rattle.dm_symbol.specs.SymbolInspection.{IsSymbolInspection}
use Rattle.ecc200_calls.specs.declared.fault.Fault.{Fault}
use Rattle.ecc200_calls.specs.declared.inspection.InspectionOut.{InspectionOut}
use Rattle.ecc200_calls.specs.Arrays.{over}
use Rattle.ecc200_calls.specs.Faults.{fault}
use Rattle.ecc200_calls.specs.Contents.{mark_shown}
use Rattle.ecc200_calls.specs.Modules.{AreDoubtful, AreModulesOf, IsGivenFault}
use Rattle.ecc200_calls.specs.Readings.{dealing_shown}

-- After a fault there is that fault, the arrays are as they were before, and all else is 0.
abbrev pub no_inspection : Fault → InspectionOut → InspectionOut
no_inspection why before =
    record {
      fault = why;
      rows = 0;
      columns = 0;
      border_faults = 0;
      block_count = 0;
      codeword_count = 0;
      dealing = 0;
      designator_count = 0;
      corrected = before.corrected;
      erased = before.erased;
      left = before.left;
      held = before.held;
      mended = before.mended;
      designators = before.designators;
    }

-- A block shows the number of its codewords that are corrected, or 255 where it is beyond correction.
abbrev pub corrected_shown : Option BlockReading → ℕ
corrected_shown (Some block) = block.corrected
corrected_shown None = 255

-- It shows the number of its erased codewords, or 0 where it is beyond correction.
abbrev pub erased_shown : Option BlockReading → ℕ
erased_shown (Some block) = block.erased
erased_shown None = 0

-- It shows the number of its check codewords that are left, or 0 where it is beyond correction.
abbrev pub left_shown : Option BlockReading → ℕ
left_shown (Some block) = block.left
left_shown None = 0

-- An inspection of a symbol with these rows and columns is given in this way, without designators.
abbrev pub inspection_shown : {room : ℕ} → ℕ → ℕ → SymbolInspectionIn room → InspectionOut → InspectionOut
inspection_shown rows columns inspection before =
    record {
      fault = fault 0 0 0;
      rows = rows;
      columns = columns;
      border_faults = inspection.border_faults;
      block_count = length inspection.blocks.items;
      codeword_count = length inspection.held.list;
      dealing = dealing_shown inspection.dealing;
      designator_count = 0;
      corrected = over (map corrected_shown inspection.blocks.items) before.corrected;
      erased = over (map erased_shown inspection.blocks.items) before.erased;
      left = over (map left_shown inspection.blocks.items) before.left;
      held = over inspection.held.list before.held;
      mended = over inspection.mended.list before.mended;
      designators = before.designators;
    }

-- The designators of an inspected symbol are those of the content that its mended data codewords say, each a mark whose
-- place counts the codewords before its ECI. Where these are refused, or a block is beyond correction, there are none.
pub data AreDesignatorsOf {room : ℕ} (inspection : SymbolInspectionIn room) (marks : List Mark) : Type 0 where
  restored : ((b : ℕ) → b < length inspection.blocks.items → IsSome (get_or inspection.blocks.items b None))
      → AreDesignations (data_of inspection.mended) marks → AreDesignatorsOf inspection marks
  lost : (b : ℕ) → b < length inspection.blocks.items → get_or inspection.blocks.items b None ≡ None → marks ≡ []
      → AreDesignatorsOf inspection marks

-- Designators are given in this way.
abbrev pub with_designators : List Mark → InspectionOut → InspectionOut
with_designators marks before =
    record before {
      designator_count = length marks;
      designators = over (map mark_shown marks) before.designators;
    }

-- The designators of an inspected symbol are given.
pub record AreDesignatorsGiven {room : ℕ} (inspection : SymbolInspectionIn room) (before after : InspectionOut) : Type 0
  where
    pub marks : List Mark
    pub are_designators : AreDesignatorsOf inspection marks
    pub shown : after ≡ with_designators marks before

-- The inspection of a symbol, with these of its modules doubtful, is given.
pub record IsInspectionGiven (rows columns : ℕ) (symbol : SymbolView) (doubtful : Option SymbolView)
    (before after : InspectionOut) : Type 0 where
  pub room : ℕ
  pub inspection : SymbolInspectionIn room
  pub inspection_is : IsSymbolInspection symbol doubtful inspection
  pub designators : AreDesignatorsGiven inspection (inspection_shown rows columns inspection before) after

-- Inspecting these modules gives the reason why they make no symbol, or the inspection of their symbol.
pub data IsInspectResult (rows columns : ℕ) (modules doubt : List ℕ) (before after : InspectionOut) : Type 0 where
  not_given : (why : Fault) → IsGivenFault rows columns modules doubt why → after ≡ no_inspection why before
      → IsInspectResult rows columns modules doubt before after
  of_symbol : (symbol : SymbolView) (doubtful : Option SymbolView)
      → AreModulesOf rows columns modules symbol → AreDoubtful rows columns doubt doubtful
      → IsInspectionGiven rows columns symbol doubtful before after
      → IsInspectResult rows columns modules doubt before after
