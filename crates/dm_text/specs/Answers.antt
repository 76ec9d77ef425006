-- What is written for records and lines, and the table of sizes.
use Rattle.std.specs.Prelude.{◌≡◌, ℕ, Bool, true, false, List, [], ◌∷◌, ◌++◌, map, flat_map, codes, if◌then◌else◌}
use Rattle.std.specs.Prelude.{Option, Some, None, Result, Ok, Err}
use Rattle.std.specs.Fmt.{decimal}
use Rattle.dm_symbol.specs.declared.Item.{Item}
use Rattle.dm_symbol.specs.declared.Profile.{Profile}
use Rattle.dm_symbol.specs.declared.Reading.{Reading}
use Rattle.dm_symbol.specs.declared.ReadFault.{ReadFault}
use Rattle.dm_symbol.specs.declared.NormalFault.{NormalFault}
use Rattle.dm_symbol.specs.Sizes.{SizeRow, size_table}
use Rattle.dm_symbol.specs.Grid.{GridView}
use Rattle.dm_symbol.specs.Reading.{ReadResult, usual_limit}
use Rattle.dm_symbol.specs.Normal.{NormalResult}
use Rattle.dm_symbol.specs.NormalGrid.{IsNormalGrid, FitsSomeSize}
use Rattle.dm_text.specs.declared.task.Task.{Task}
use Rattle.dm_text.specs.declared.task.Task.TheVariants.{Read, Check, Normal, Write, Table}
use Rattle.dm_text.specs.Texts.{lf, ended_lines}
use Rattle.dm_text.specs.Spellings.{text_of}
use Rattle.dm_text.specs.RecordFeeds.{RecordMeaning}
use Rattle.dm_text.specs.LineFeeds.{LineMeaning}
use Rattle.dm_text.specs.Refusals.{record_refusal, read_refusal, normal_refusal, line_refusal, too_long_refusal}

-- The answer to a record or a line is the text that is written for it, with its LFs, and whether it is a refusal.
pub record Answer : Type 0 where
  pub text : List ℕ
  pub refused : Bool

-- ---- texts

-- A dark cell is written as the character 1, which is 49, and a light one as 0.
abbrev pub character_of : Bool → ℕ
character_of dark = if dark then 49 else 48

-- A grid is written row by row, each row followed by LF.
abbrev pub grid_text : List (List Bool) → List ℕ
grid_text rows = ended_lines (map (map character_of) rows)

-- Numbers are written in decimal, with single spaces between them.
abbrev pub spaced_text : List ℕ → List ℕ
spaced_text [] = []
spaced_text (number ∷ numbers) = decimal number ++ flat_map (λ next. codes " " ++ decimal next) numbers

-- The line that says how damaged a grid is has its side, the number of its border faults and, for each block, the
-- number of places at which it was corrected.
abbrev pub check_text : ℕ → Reading → List ℕ
check_text side reading =
    codes "ok " ++ decimal side ++ codes " border " ++ decimal reading.border_faults ++ codes " corrected "
    ++ spaced_text reading.corrected.items

-- ---- answers

-- An answer of one line has that line followed by LF.
abbrev pub line_answer : List ℕ → Answer
line_answer line = record { text = line ++ lf ∷ []; refused = false }

-- An answer that refuses has the refusal followed by LF.
abbrev pub refusal_answer : List ℕ → Answer
refusal_answer refusal = record { text = refusal ++ lf ∷ []; refused = true }

-- An answer that is a grid has the rows of the grid followed by an empty line.
abbrev pub grid_answer : GridView → Answer
grid_answer grid = record { text = grid_text grid.rows ++ lf ∷ []; refused = false }

-- An answer that refuses in place of a grid has the refusal followed by an empty line.
abbrev pub refusal_in_place_of_grid : List ℕ → Answer
refusal_in_place_of_grid refusal = record { text = refusal ++ lf ∷ lf ∷ []; refused = true }

-- Reading a grid is answered by the text of its message, or by a refusal if the grid isn't read.
abbrev pub reading_answer : Result Reading ReadFault → Answer
reading_answer (Ok reading) = line_answer (text_of reading.message)
reading_answer (Err why) = refusal_answer (read_refusal why)

-- Checking a grid of this side is answered by how damaged it is, or by a refusal if it isn't read.
abbrev pub checking_answer : ℕ → Result Reading ReadFault → Answer
checking_answer side (Ok reading) = line_answer (check_text side reading)
checking_answer side (Err why) = refusal_answer (read_refusal why)

-- Normalising a grid is answered by the normal grid of its message, or by a refusal if there is none.
abbrev pub normalising_answer : Result GridView NormalFault → Answer
normalising_answer (Ok grid) = grid_answer grid
normalising_answer (Err why) = refusal_in_place_of_grid (normal_refusal why)

-- The border limit for a grid of this side is the number given, or else the usual limit.
abbrev pub border_limit_for : Option ℕ → ℕ → ℕ
border_limit_for (Some limit) side = limit
border_limit_for None side = usual_limit side

-- Where messages are asked for, a record that is a grid is answered as reading it is, and any other by its refusal.
abbrev pub IsReadAnswer : Option ℕ → RecordMeaning → Answer → Type 0
IsReadAnswer border (Ok grid) answer =
    (reading : Result Reading ReadFault) × ReadResult grid (border_limit_for border grid.size.side) reading
    × (answer ≡ reading_answer reading)
IsReadAnswer border (Err why) answer = answer ≡ refusal_answer (record_refusal why)

-- Where it is asked how damaged grids are, a record that is a grid is
-- answered as checking it is, and any other by its refusal.
abbrev pub IsCheckAnswer : Option ℕ → RecordMeaning → Answer → Type 0
IsCheckAnswer border (Ok grid) answer =
    (reading : Result Reading ReadFault) × ReadResult grid (border_limit_for border grid.size.side) reading
    × (answer ≡ checking_answer grid.size.side reading)
IsCheckAnswer border (Err why) answer = answer ≡ refusal_answer (record_refusal why)

-- Where normal grids under a profile are asked for, a record that is a
-- grid is answered as normalising it is, and any other by its refusal.
abbrev pub IsNormalAnswer : Option ℕ → Profile → RecordMeaning → Answer → Type 0
IsNormalAnswer border profile (Ok grid) answer =
    (normal : Result GridView NormalFault) × NormalResult profile grid (border_limit_for border grid.size.side)
    normal × (answer ≡ normalising_answer normal)
IsNormalAnswer border profile (Err why) answer = answer ≡ refusal_in_place_of_grid (record_refusal why)

-- A record is answered by what the task asks of it.
abbrev pub IsRecordAnswer : Task → RecordMeaning → Answer → Type 0
IsRecordAnswer (Read border) meaning answer = IsReadAnswer border meaning answer
IsRecordAnswer (Check border) meaning answer = IsCheckAnswer border meaning answer
IsRecordAnswer (Normal border profile) meaning answer = IsNormalAnswer border profile meaning answer
IsRecordAnswer (Write profile) meaning answer = ⊥
IsRecordAnswer Table meaning answer = ⊥

-- A message is answered by its normal grid under the profile, or by a refusal if it has none.
pub data IsMessageAnswer (profile : Profile) (message : List Item) (answer : Answer) : Type 0 where
  normal_grid : (grid : GridView) → IsNormalGrid profile message grid → answer ≡ grid_answer grid →
      IsMessageAnswer profile message answer
  too_long : (FitsSomeSize profile message → ⊥) → answer ≡ refusal_in_place_of_grid too_long_refusal →
      IsMessageAnswer profile message answer

-- A message line is answered, under a profile, as its message is, or by the refusal of its fault.
abbrev pub IsWriteAnswer : Profile → LineMeaning → Answer → Type 0
IsWriteAnswer profile (Ok message) answer = IsMessageAnswer profile message answer
IsWriteAnswer profile (Err why) answer = answer ≡ refusal_in_place_of_grid (line_refusal why)

-- ---- the table

-- A size is written as the numbers of its row.
abbrev pub numbers_of : SizeRow → List ℕ
numbers_of size =
    size.side ∷ size.regions ∷ size.region_side ∷ size.mapping ∷ size.data_count ∷ size.check_count ∷ size.blocks ∷
    size.limit ∷ []

-- The table of sizes is written as a line for each, by rising side.
abbrev pub table_text : List ℕ
table_text = ended_lines (map (λ size. spaced_text (numbers_of size)) size_table)
