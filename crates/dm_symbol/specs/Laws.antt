-- What holds of all messages and grids. The bytes of a message are numbers of 0 to 255.
use Rattle.std.specs.Prelude.{◌≡◌, ℕ, ◌≤◌, ◌*◌, List, Result, Ok, not, replicate, ◌↔◌, sum_by, count_by, length}
use Rattle.std.specs.Bool.{beq}
use Rattle.std.specs.List.{range_with_len}
use Rattle.dm_words.specs.declared.item.Item.{Item}
use Rattle.dm_words.specs.declared.profile.Profile.{Profile}
use Rattle.dm_layout.specs.Sizes.{most_grid_data}
use Rattle.dm_layout.specs.Grid.{GridView, IsGrid, cell_at}
use Rattle.dm_words.specs.Messages.{IsMessage}
use Rattle.dm_symbol.specs.declared.reading.Reading.{Reading}
use Rattle.dm_symbol.specs.declared.reading.ReadFault.{ReadFault}
use Rattle.dm_symbol.specs.declared.normalising.NormalFault.{NormalFault}
use Rattle.dm_symbol.specs.NormalGrid.{IsNormalGrid, FitsSomeSize}
use Rattle.dm_symbol.specs.Reading.{Reads, ReadResult, reading_of}
use Rattle.dm_symbol.specs.Normal.{HasNormal, NormalResult}

-- Two normal grids under one profile are equal exactly where their messages are equal.
abbrev pub NormalGridsTellMessages : Type 0
NormalGridsTellMessages = (profile : Profile) (message other_message : List Item) (grid other_grid : GridView)
    → IsMessage message → IsMessage other_message
    → IsNormalGrid profile message grid → IsNormalGrid profile other_message other_grid
    → (grid ≡ other_grid) ↔ (message ≡ other_message)

-- A grid is read as at most one message, whatever the limits.
abbrev pub OneMessageIsRead : Type 0
OneMessageIsRead = (grid : GridView) (limit other_limit : ℕ) (message other : List Item) → Reads grid limit message
    → Reads grid other_limit other → message ≡ other

-- What a grid is read as has at most two items for each data codeword of its size.
abbrev pub FewItemsAreRead : Type 0
FewItemsAreRead = (grid : GridView) (limit : ℕ) (message : List Item) → Reads grid limit message
    → length message ≤ 2 * grid.size.data_count

-- So it has no more than two for each data codeword of the largest size: 1,632.
abbrev pub NoMoreItemsAreRead : Type 0
NoMoreItemsAreRead = (grid : GridView) (limit : ℕ) (message : List Item) → Reads grid limit message
    → length message ≤ 2 * most_grid_data

-- A grid has at most one result of reading for a limit.
abbrev pub ReadResultIsOne : Type 0
ReadResultIsOne = (grid : GridView) (limit : ℕ) (result other : Result Reading ReadFault)
    → ReadResult grid limit result → ReadResult grid limit other → result ≡ other

-- A grid has at most one result of normalising for a profile and a limit.
abbrev pub NormalResultIsOne : Type 0
NormalResultIsOne = (profile : Profile) (grid : GridView) (limit : ℕ) (result other : Result GridView NormalFault)
    → NormalResult profile grid limit result → NormalResult profile grid limit other → result ≡ other

-- A grid has some result of reading for each limit.
abbrev pub ReadResultIsThere : Type 0
ReadResultIsThere = (grid : GridView) (limit : ℕ) → IsGrid grid
    → (result : Result Reading ReadFault) × ReadResult grid limit result

-- A grid has some result of normalising for each profile and limit.
abbrev pub NormalResultIsThere : Type 0
NormalResultIsThere = (profile : Profile) (grid : GridView) (limit : ℕ) → IsGrid grid
    → (result : Result GridView NormalFault) × NormalResult profile grid limit result

-- A message that fits some size has a normal grid.
abbrev pub ANormalGridIsThere : Type 0
ANormalGridIsThere = (profile : Profile) (message : List Item) → IsMessage message → FitsSomeSize profile message
    → (grid : GridView) × IsNormalGrid profile message grid

-- The normal grid of a message is read as that message for every limit, with nothing corrected in any block and no
-- border fault, and has no other result.
abbrev pub NormalGridIsRead : Type 0
NormalGridIsRead =
    (profile : Profile) (message : List Item) (grid : GridView) (limit : ℕ) (result : Result Reading ReadFault)
    → IsMessage message → IsNormalGrid profile message grid
    → ReadResult grid limit result ↔ (result ≡ Ok (reading_of message (replicate grid.size.blocks 0) 0))

-- Two grids of one side differ at this many cells.
abbrev pub turned_cells : GridView → GridView → ℕ
turned_cells grid other =
    sum_by (λ row. count_by (λ column. not (beq (cell_at grid row column) (cell_at other row column)))
    (range_with_len 0 grid.size.side)) (range_with_len 0 grid.size.side)

-- If no more cells of a normal grid are turned over than codewords can be corrected in a block of its size, the grid
-- that comes out is read as the same message, for every border limit that is no less than that number of codewords.
abbrev pub TurnedCellsAreRead : Type 0
TurnedCellsAreRead =
    (profile : Profile) (message : List Item) (normal grid : GridView) (border_limit : ℕ) → IsMessage message
    → IsNormalGrid profile message normal → IsGrid grid
    → grid.size.side ≡ normal.size.side → turned_cells normal grid ≤ normal.size.limit
    → normal.size.limit ≤ border_limit → Reads grid border_limit message

-- Normalising twice is the same as normalising once: a normal grid is its own normal grid, for every second limit.
abbrev pub NormalTwiceIsOnce : Type 0
NormalTwiceIsOnce =
    (profile : Profile) (grid normal : GridView) (limit other : ℕ) (result : Result GridView NormalFault)
    → HasNormal profile grid limit normal → NormalResult profile normal other result ↔ (result ≡ Ok normal)

-- Normalising under one profile and then under another is the same as normalising under the other alone, for every
-- second limit. If the first result is a normal grid, the second result, given for that normal grid, is the one that
-- the first grid has under the second profile, even where this result is that the message is too long.
abbrev pub TheLastProfileDecides : Type 0
TheLastProfileDecides =
    (first last : Profile) (grid normal : GridView) (limit other : ℕ) (result : Result GridView NormalFault)
    → HasNormal first grid limit normal → NormalResult last normal other result ↔ NormalResult last grid limit result

-- Two grids that are read have equal normal grids under one profile exactly where their messages are equal, whatever
-- the limits.
abbrev pub EqualNormalGridsMeanEqualMessages : Type 0
EqualNormalGridsMeanEqualMessages =
    (profile : Profile) (grid other_grid normal other_normal : GridView)
    (limit other_limit normal_limit other_normal_limit : ℕ) (message other_message : List Item)
    → Reads grid limit message → Reads other_grid other_limit other_message
    → HasNormal profile grid normal_limit normal → HasNormal profile other_grid other_normal_limit other_normal
    → (normal ≡ other_normal) ↔ (message ≡ other_message)
