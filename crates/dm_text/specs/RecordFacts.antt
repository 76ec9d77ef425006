-- What a grid feed has to know of an open record, so that it can give the record's meaning when it ends.
use Rattle.std.specs.Prelude.{◌≡◌, ◌==◌, ◌&&◌, ℕ, Bool, true, false, not, if◌then◌else◌, List, [], ◌∷◌, ◌++◌, length}
use Rattle.std.specs.Prelude.{Option, Some, None}
use Rattle.std.specs.List.{list_any}
use Rattle.dm_text.specs.Texts.{last_line}
use Rattle.dm_text.specs.Records.{IsOpenRecord, has_foreign, is_large, rows_of}

-- An open record has contents of one of these kinds.
pub data RecordContents : Type 0 where
  -- A character other than 0 and 1 stands in the record.
  Foreign : RecordContents
  -- There is no such character, but a line is too long or there are too many lines.
  Large : RecordContents
  -- Neither of these holds. There are `count` lines, of which the first and the last have `first` and `last`
  -- characters, and their rows of cells are known unless a line that is ended by LF differs in length from the first.
  Cells : (count first last : ℕ) (rows : Option (List (List Bool))) → RecordContents

-- An open record has these facts; empty lines before it don't belong to it.
pub record RecordFacts : Type 0 where
  -- The last byte of the record is LF.
  pub ended : Bool
  pub contents : RecordContents

-- The first of some lines has this length; without lines it is 0.
abbrev pub first_length : List (List ℕ) → ℕ
first_length [] = 0
first_length (line ∷ lines) = length line

-- The last of some lines has this length; without lines it is 0.
abbrev pub last_length : List (List ℕ) → ℕ
last_length [] = 0
last_length (line ∷ []) = length line
last_length (line ∷ next ∷ lines) = last_length (next ∷ lines)

-- The list is empty.
abbrev pub is_nothing : {X : Type 0} → List X → Bool
is_nothing [] = true
is_nothing (x ∷ xs) = false

-- Some line doesn't have this length.
abbrev pub differ : ℕ → List (List ℕ) → Bool
differ first lines = list_any (λ line. not (length line == first)) lines

-- Lines that are neither foreign nor too large have these contents; the first of them, `done`, are ended by LF.
abbrev pub cells_of_lines : List (List ℕ) → List (List ℕ) → RecordContents
cells_of_lines done lines =
    Cells (length lines) (first_length lines) (last_length lines)
    (if differ (first_length lines) done then None else Some (rows_of lines))

-- Lines that are each ended by LF, and a rest, have these contents.
abbrev pub contents_of : List (List ℕ) → List ℕ → RecordContents
contents_of lines rest =
    let all = lines ++ last_line rest in
    if has_foreign all then Foreign
    else if is_large all then Large
    else cells_of_lines lines all

-- Lines that are each ended by LF, and a rest, have these facts.
abbrev pub facts_of_record : List (List ℕ) → List ℕ → RecordFacts
facts_of_record lines rest = record {
  ended = is_nothing rest && not (is_nothing lines);
  contents = contents_of lines rest;
}

-- A text has the facts of the record that is open in it; where none is open, it has those of a record without lines.
pub record AreRecordFacts (text : List ℕ) (facts : RecordFacts) : Type 0 where
  pub lines : List (List ℕ)
  pub rest : List ℕ
  pub open_record : IsOpenRecord text lines rest
  pub facts_are : facts ≡ facts_of_record lines rest
