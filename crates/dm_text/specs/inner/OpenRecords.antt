-- How an open record is kept: as rows of cells, each a number.
use Rattle.std.specs.Prelude.{◌≡◌, ◌==◌, ◌&&◌, ◌+◌, ◌*◌, ◌<◌, ◌≤◌, ℕ, Bool, true, false, not, if◌then◌else◌, List, []}
use Rattle.std.specs.Prelude.{◌∷◌, ◌++◌, get_or, length, map, replicate, take, Option, Some, None}
use Rattle.std.specs.List.{list_any, range_with_len}
use Rattle.dm_symbol.specs.Grid.{is_dark_in}
use Rattle.dm_text.specs.declared.row_part.RowPart.{RowPart}
use Rattle.dm_text.specs.declared.rows.Rows.{Rows}
use Rattle.dm_text.specs.declared.record.Contents.{Contents}
use Rattle.dm_text.specs.declared.record.Contents.TheVariants as kept
use Rattle.dm_text.specs.Texts.{ended_lines, last_line, lf}
use Rattle.dm_text.specs.Records.{AreFullLines, IsClosedRecord, has_foreign, is_foreign, is_large}
use Rattle.dm_text.specs.RecordFacts.{AreRecordFacts, RecordContents, RecordFacts, Foreign, Large, Cells, contents_of}
use Rattle.dm_text.specs.RecordFacts.{facts_of_record, differ, first_length, last_length, is_nothing}

-- A character is a dark cell if it is 1, which is 49.
abbrev pub is_dark : ℕ → Bool
is_dark b = b == 49

-- The digit of a character is 1 for a dark cell and 0 for a light one.
abbrev pub digit_of : ℕ → ℕ
digit_of b = if is_dark b then 1 else 0

-- A line is kept as a number, in which the digit of column c, counted from 0 at the left, has the weight 2^c.
abbrev pub number_of : List ℕ → ℕ
number_of [] = 0
number_of (b ∷ line) = digit_of b + 2 * number_of line

-- The first `width` cells of a row that is a number are read from it, from the left.
abbrev pub cells_in : ℕ → ℕ → List Bool
cells_in width row = map (is_dark_in row) (range_with_len 0 width)

-- Rows of cells are read from numbers, `width` cells from each, but `last` cells from the last of them.
abbrev pub rows_in : ℕ → ℕ → List ℕ → List (List Bool)
rows_in width last [] = []
rows_in width last (row ∷ []) = cells_in last row ∷ []
rows_in width last (row ∷ next ∷ rows) = cells_in width row ∷ rows_in width last (next ∷ rows)

-- As many lines are kept as there are numbers.
abbrev pub line_count : Rows → ℕ
line_count t = length t.rows.items

-- The rows of cells are seen unless a line that is ended differs in length from the first.
abbrev pub rows_seen : Rows → Option (List (List Bool))
rows_seen t = if t.differs then None else Some (rows_in t.first t.last t.rows.items)

-- The contents that are kept are seen as contents of a record.
abbrev pub contents_seen : Contents → RecordContents
contents_seen kept.Foreign = Foreign
contents_seen kept.Large = Large
contents_seen (kept.Cells t) = Cells (line_count t) t.first t.last (rows_seen t)

-- The rows of these lines and this rest are kept: these are few and short, and consist of 0 and 1 alone.
pub record HoldsLines (t : Rows) (lines : List (List ℕ)) (rest : List ℕ) : Type 0 where
  pub rows_are : t.rows.items ≡ map number_of (lines ++ last_line rest)
  pub first_is : t.first ≡ first_length (lines ++ last_line rest)
  pub last_is : t.last ≡ last_length (lines ++ last_line rest)
  pub differs_is : t.differs ≡ differ t.first lines
  pub cells : has_foreign (lines ++ last_line rest) ≡ false
  pub small : is_large (lines ++ last_line rest) ≡ false

-- The cells are those of these characters: 1 to 128, each of them 0 or 1.
pub record AreCells (characters : List ℕ) (part : RowPart) : Type 0 where
  pub bits_are : part.bits ≡ number_of characters
  pub count_is : part.count ≡ length characters
  pub some : 0 < part.count
  pub few : part.count ≤ 128
  pub cells : list_any is_foreign characters ≡ false

-- The cells are those of the first characters of a text.
pub record AreFirstCells (text : List ℕ) (part : RowPart) : Type 0 where
  pub within : part.count ≤ length text
  pub cells : AreCells (take part.count text) part

-- The cells are those of a line at the start of a text: LF comes after them.
pub record IsFirstLine (text : List ℕ) (part : RowPart) : Type 0 where
  pub within : part.count < length text
  pub cells : AreCells (take part.count text) part
  pub ended : get_or text part.count 0 ≡ lf

-- The first 32 bytes of a text, with zeros behind them where it has fewer.
abbrev pub padded_block : List ℕ → List ℕ
padded_block text = take 32 (text ++ replicate 32 0)

-- The last byte of lines, each ended by LF, and a rest is LF.
abbrev pub is_ended : List (List ℕ) → List ℕ → Bool
is_ended lines rest = is_nothing rest && not (is_nothing lines)

-- The contents of these lines and this rest are kept.
abbrev pub AreContents : Contents → List (List ℕ) → List ℕ → Type 0
AreContents kept.Foreign lines rest = contents_of lines rest ≡ Foreign
AreContents kept.Large lines rest = contents_of lines rest ≡ Large
AreContents (kept.Cells t) lines rest = HoldsLines t lines rest

-- A record is kept: its contents are those of some lines and a rest, and it says whether LF came last.
pub record IsRecordState (ended : Bool) (contents : Contents) : Type 0 where
  pub lines : List (List ℕ)
  pub rest : List ℕ
  pub ended_is : ended ≡ is_ended lines rest
  pub contents_are : AreContents contents lines rest

-- These bytes are whole lines, each with its LF, and the rows are those of the lines before and of them.
pub record EndsLines (t : Rows) (lines : List (List ℕ)) (bytes : List ℕ) : Type 0 where
  pub more : List (List ℕ)
  pub bytes_are : bytes ≡ ended_lines more
  pub full : AreFullLines more
  pub held : HoldsLines t (lines ++ more) []

-- Where there was room, the rows of the lines and the rest are kept; otherwise there are too many of them, or one is
-- too long.
abbrev pub Continues : Bool → Rows → List (List ℕ) → List ℕ → Type 0
Continues true t lines rest = HoldsLines t lines rest
Continues false t lines rest = is_large (lines ++ last_line rest) ≡ true

-- A record stands open in a text, and the text with one more byte closes it.
pub record EndsAt (before after : List ℕ) (facts : RecordFacts) : Type 0 where
  pub still_open : AreRecordFacts before facts
  pub lines : List (List ℕ)
  pub closed : IsClosedRecord after lines
  pub facts_are : facts ≡ facts_of_record lines []
