-- What feeding pieces of a text to a grid feed does.
use Rattle.std.specs.Prelude.{◌≡◌, ◌≢◌, ◌≤◌, ◌<◌, ◌⊎◌, ℕ, List, [], ◌∷◌, ◌++◌, length, take, drop, map, Result}
use Rattle.std.specs.List.{AllByRecursion}
use Rattle.dm_symbol.specs.Grid.{GridView}
use Rattle.dm_text.specs.declared.record.RecordFault.{RecordFault}
use Rattle.dm_text.specs.Texts.{ended_lines, last_line, IsSplit}
use Rattle.dm_text.specs.Records.{AreRecords, IsClosedRecord, IsOpenRecord, record_of}
use Rattle.dm_text.specs.RecordFacts.{RecordFacts, AreRecordFacts}

-- A record means its grid or its fault.
abbrev pub RecordMeaning : Type 0
RecordMeaning = Result GridView RecordFault

-- A piece none of whose bytes closes a record leaves it open: the piece
-- is taken as a whole, and what stands open is longer by it.
pub record LeavesRecordOpen (old : RecordFacts) (piece : List ℕ) (taken : ℕ) (new : RecordFacts) : Type 0 where
  pub whole : taken ≡ length piece
  pub grown : (text : List ℕ) → AreRecordFacts text old → AreRecordFacts (text ++ piece) new

-- The record that the last byte of a text closes has this meaning.
pub record ClosedRecordMeans (text : List ℕ) (meaning : RecordMeaning) : Type 0 where
  pub lines : List (List ℕ)
  pub closed : IsClosedRecord text lines
  pub meaning_is : meaning ≡ record_of lines

-- A byte of a piece closes a record: the piece is taken up to and including
-- it, the record has this meaning, and then none is open.
pub record ClosesRecord (old : RecordFacts) (piece : List ℕ) (taken : ℕ) (meaning : RecordMeaning)
    (new : RecordFacts) : Type 0 where
  pub some : 0 < taken
  pub within : taken ≤ length piece
  pub means : (text : List ℕ) → AreRecordFacts text old → ClosedRecordMeans (text ++ take taken piece) meaning
  pub empty : AreRecordFacts [] new

-- A record that is still open at the end of a text, with some lines or a rest, has this meaning.
pub record LastRecordMeans (text : List ℕ) (meaning : RecordMeaning) : Type 0 where
  pub lines : List (List ℕ)
  pub rest : List ℕ
  pub open_record : IsOpenRecord text lines rest
  pub some : lines ++ last_line rest ≢ []
  pub meaning_is : meaning ≡ record_of (lines ++ last_line rest)

-- Pieces fed one after another, each until all of it is taken, close records with these meanings.
pub data AreRecordsFed : RecordFacts → List (List ℕ) → List RecordMeaning → RecordFacts → Type 0 where
  no_piece : (facts : RecordFacts) → AreRecordsFed facts [] [] facts
  leaves_open : (old mid new : RecordFacts) (piece : List ℕ) (taken : ℕ) (pieces : List (List ℕ))
      (meanings : List RecordMeaning)
      → LeavesRecordOpen old piece taken mid → AreRecordsFed mid pieces meanings new →
      AreRecordsFed old (piece ∷ pieces) meanings new
  closes : (old mid new : RecordFacts) (piece : List ℕ) (taken : ℕ) (meaning : RecordMeaning) (pieces : List (List ℕ))
      (meanings : List RecordMeaning)
      → ClosesRecord old piece taken meaning mid → AreRecordsFed mid (drop taken piece ∷ pieces) meanings new
      → AreRecordsFed old (piece ∷ pieces) (meaning ∷ meanings) new

-- The lines of a text are cut after the last empty one, or before all of them if none is empty.
pub record IsLastBlank (lines before after : List (List ℕ)) : Type 0 where
  pub whole : lines ≡ before ++ after
  pub full : AllByRecursion (λ line. line ≢ []) after
  pub blank : (before ≡ []) ⊎ ((prefix : List (List ℕ)) × (before ≡ prefix ++ [] ∷ []))

-- Feeding pieces gives the meanings of the records in the text that they make together: of those that an empty line
-- ends, and what follows the last empty line is left open.
pub record AreRecordsOfText (text : List ℕ) (meanings : List RecordMeaning) (new : RecordFacts) : Type 0 where
  pub lines : List (List ℕ)
  pub rest : List ℕ
  pub split : IsSplit text lines rest
  pub before : List (List ℕ)
  pub after : List (List ℕ)
  pub last_blank : IsLastBlank lines before after
  pub records : List (List (List ℕ))
  pub are_records : AreRecords before records
  pub meanings_are : meanings ≡ map record_of records
  pub left : AreRecordFacts (ended_lines after ++ rest) new
