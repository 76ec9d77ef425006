-- The normal grid, under a profile, of the message that a grid is read as.
use Rattle.std.specs.Prelude.{ℕ, List, Result, Ok, Err}
use Rattle.dm_words.specs.declared.item.Item.{Item}
use Rattle.dm_words.specs.declared.profile.Profile.{Profile}
use Rattle.dm_layout.specs.Grid.{GridView}
use Rattle.dm_symbol.specs.declared.reading.Reading.{Reading}
use Rattle.dm_symbol.specs.declared.normalising.NormalFault.{NormalFault}
use Rattle.dm_symbol.specs.declared.normalising.NormalFault.TheVariants.{Read, TooLong}
use Rattle.dm_symbol.specs.NormalGrid.{IsNormalGrid, FitsSomeSize}
use Rattle.dm_symbol.specs.NormalOutcomes.{IsNormalOrFault, IsNormalGiven, IsNormalLeft}
use Rattle.dm_symbol.specs.Reading.{Reads, ReadResult}

-- The grid is read as a message, and this is the normal grid of that message.
pub record HasNormal (profile : Profile) (grid : GridView) (limit : ℕ) (normal : GridView) : Type 0 where
  pub message : List Item
  pub read : Reads grid limit message
  pub normal_grid : IsNormalGrid profile message normal

-- The grid is read as a message that fits no size, and so has no normal grid.
pub record HasNoNormal (profile : Profile) (grid : GridView) (limit : ℕ) : Type 0 where
  pub message : List Item
  pub read : Reads grid limit message
  pub too_long : FitsSomeSize profile message → ⊥

-- The result for a grid is the normal grid of the message that it is read as; or that this message fits no size; or the
-- fault of reading.
abbrev pub NormalResult : Profile → GridView → ℕ → Result GridView NormalFault → Type 0
NormalResult profile grid limit =
    IsNormalOrFault Read TooLong (HasNormal profile grid limit) (HasNoNormal profile grid limit)
    (λ why. ReadResult grid limit (Err why))

-- What normalising a grid gives: the result defined above; and each kind of result is given exactly where its condition
-- holds.
abbrev pub IsNormalised : Profile → GridView → ℕ → Result GridView NormalFault → Type 0
IsNormalised profile grid limit =
    IsNormalGiven Read TooLong (HasNormal profile grid limit) (HasNoNormal profile grid limit)
    (λ why. ReadResult grid limit (Err why))

-- What normalising a grid leaves in its two targets: that of the reading then holds `reading`; that of the normal grid
-- held `before`, and then holds `after`. The outcome is what normalising the grid gives. `reading` is what the grid
-- says, where there is a normal grid and where the message fits no size. After a fault the target of the normal grid is
-- as it was.
abbrev pub IsNormalisedTo : {U : Type 0} → Profile → GridView → ℕ → Result U NormalFault → Reading → GridView → GridView
    → Type 0
IsNormalisedTo profile grid limit done reading =
    IsNormalLeft Read TooLong (HasNormal profile grid limit) (HasNoNormal profile grid limit)
    (λ why. ReadResult grid limit (Err why)) (ReadResult grid limit (Ok reading)) done
