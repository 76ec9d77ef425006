-- Grid texts: where their records stand, and which grid or fault the lines of a record make.
use Rattle.std.specs.Prelude.{◌≡◌, ◌≢◌, ◌==◌, ◌||◌, ℕ, Bool, not, nat_lt, if◌then◌else◌, List, [], ◌∷◌, ◌++◌, length}
use Rattle.std.specs.Prelude.{map, Option, Some, None, Result, Ok, Err}
use Rattle.std.specs.List.{AllByRecursion, list_all, list_any}
use Rattle.dm_symbol.specs.Sizes.{SizeRow, largest_side, row_with_side}
use Rattle.dm_symbol.specs.Grid.{GridView}
use Rattle.dm_text.specs.declared.record.RecordFault.{RecordFault}
use Rattle.dm_text.specs.declared.record.RecordFault.TheVariants.{Character, Large, NotSquare, NoSuchSize}
use Rattle.dm_text.specs.Texts.{lf, HasNoLf, ended_lines}

-- ---- where records stand

-- Bytes that are all LF are empty lines.
abbrev pub AreLfs : List ℕ → Type 0
AreLfs bytes = AllByRecursion (λ b. b ≡ lf) bytes

-- Full lines have no LF and aren't empty.
abbrev pub AreFullLines : List (List ℕ) → Type 0
AreFullLines lines = AllByRecursion (λ line. (line ≢ []) × HasNoLf line) lines

-- A text leaves a record open if it is empty lines, then full lines, then a rest without LF. These full lines and the
-- rest are what has come of that record; where there are neither, no record is open.
pub record IsOpenRecord (text : List ℕ) (lines : List (List ℕ)) (rest : List ℕ) : Type 0 where
  pub blank : List ℕ
  pub are_lfs : AreLfs blank
  pub whole : text ≡ blank ++ (ended_lines lines ++ rest)
  pub full : AreFullLines lines
  pub rest_no_lf : HasNoLf rest

-- The last byte of a text closes a record if the text is empty lines, the lines of the record, and an empty line.
pub record IsClosedRecord (text : List ℕ) (lines : List (List ℕ)) : Type 0 where
  pub blank : List ℕ
  pub are_lfs : AreLfs blank
  pub whole : text ≡ blank ++ (ended_lines lines ++ lf ∷ [])
  pub full : AreFullLines lines
  pub some : lines ≢ []

-- No line comes next, or an empty one does.
abbrev pub BeginsBlank : List (List ℕ) → Type 0
BeginsBlank [] = Unit {0}
BeginsBlank ([] ∷ lines) = Unit {0}
BeginsBlank ((b ∷ line) ∷ lines) = ⊥

-- The records in some lines are the longest stretches of lines that aren't empty.
pub data AreRecords : List (List ℕ) → List (List (List ℕ)) → Type 0 where
  -- Where no line is left there is no record.
  no_line : AreRecords [] []
  -- An empty line belongs to no record.
  empty_line : (lines : List (List ℕ)) (records : List (List (List ℕ))) → AreRecords lines records →
      AreRecords ([] ∷ lines) records
  -- A stretch of full lines that no further line makes longer is a record.
  longest_stretch : (these lines : List (List ℕ)) (records : List (List (List ℕ))) → these ≢ [] → AreFullLines these →
      BeginsBlank lines
      → AreRecords lines records → AreRecords (these ++ lines) (these ∷ records)

-- ---- what a record comes to

-- A character is foreign if it is neither 0, a light cell, nor 1, a dark one; these are 48 and 49.
abbrev pub is_foreign : ℕ → Bool
is_foreign b = not (b == 48 || b == 49)

-- A character other than 0 and 1 stands in the lines.
abbrev pub has_foreign : List (List ℕ) → Bool
has_foreign lines = list_any (list_any is_foreign) lines

-- Lines are too large if one of them has more characters than the largest side, or if there are more lines than that.
abbrev pub is_large : List (List ℕ) → Bool
is_large lines = nat_lt largest_side (length lines) || list_any (λ line. nat_lt largest_side (length line)) lines

-- Lines are square if each has as many characters as there are lines.
abbrev pub is_square : List (List ℕ) → Bool
is_square lines = list_all (λ line. length line == length lines) lines

-- The lines of a record are rows of cells, in which the character 1 is dark.
abbrev pub rows_of : List (List ℕ) → List (List Bool)
rows_of lines = map (map (λ b. b == 49)) lines

-- Square lines make the grid of this size, if there is one with their side; otherwise their fault is that there is
-- none.
abbrev pub grid_of_size : Option SizeRow → List (List ℕ) → Result GridView RecordFault
grid_of_size (Some size) lines = Ok (record { size = size; rows = rows_of lines })
grid_of_size None lines = Err (NoSuchSize (length lines))

-- The lines of a record make a grid, or have a fault; of several faults the first counts.
abbrev pub record_of : List (List ℕ) → Result GridView RecordFault
record_of lines =
    if has_foreign lines then Err Character
    else if is_large lines then Err Large
    else if is_square lines then grid_of_size (row_with_side (length lines)) lines
    else Err NotSquare
