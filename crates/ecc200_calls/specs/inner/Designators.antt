-- What the private functions that show designators give.
use Rattle.std.specs.Prelude.{◌≡◌, ℕ, List}
use Rattle.dm_symbol.specs.declared.Mark.{Mark}
use Rattle.dm_words.specs.Designations.{AreDesignations}
use Rattle.ecc200_calls.specs.declared.inspection.InspectionOut.{InspectionOut}
use Rattle.ecc200_calls.specs.Inspections.{with_designators}

-- The designators among these data codewords are given.
pub record AreFoundDesignators (words : List ℕ) (before after : InspectionOut) : Type 0 where
  pub marks : List Mark
  pub are_designations : AreDesignations words marks
  pub shown : after ≡ with_designators marks before
