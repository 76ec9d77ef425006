-- What a `LineFeed` has to know of an open message line, so that it can give the line's meaning when it ends.
use Rattle.std.specs.Prelude.{◌≡◌, nat_le, min, if◌then◌else◌, ℕ, List, ◌++◌, length, Option, Some, None}
use Rattle.dm_symbol.specs.declared.Item.{Item}
use Rattle.dm_text.specs.Spellings.{IsJoined, IsJoining, IsSpelling}
use Rattle.dm_text.specs.MessageLines.{IsLongestPrefix, column_after, most_bytes}
use Rattle.dm_symbol.specs.Messages.{most_items}

-- An open line has these facts.
pub data LineFacts : Type 0 where
  -- The line has a fault in this column.
  Faulty : (column : ℕ) → LineFacts
  -- The longest prefix of the line that is joined spellings has `prefix_length` bytes. Its items are known unless they
  -- are too many, and the bytes `pending` follow it.
  Good : (prefix_length : ℕ) (items : Option (List Item)) (pending : List ℕ) → LineFacts

-- Items are kept unless they are too many.
abbrev pub kept : List Item → Option (List Item)
kept items = if nat_le (length items) most_items then Some items else None

-- Bytes can become a spelling if some bytes after them complete one.
abbrev pub CanBecomeSpelling : List ℕ → Type 0
CanBecomeSpelling pending = (more : List ℕ) × (item : Item) × IsSpelling (pending ++ more) item

-- A line is faulty if no bytes after it make it a joining of spellings; the column is that of its fault.
pub record IsFaultyLine (line : List ℕ) (column : ℕ) : Type 0 where
  pub prefix : List ℕ
  pub rest : List ℕ
  pub longest : IsLongestPrefix line prefix rest
  pub broken : (more : List ℕ) → IsJoined (line ++ more) → ⊥
  pub column_is : column ≡ column_after prefix

-- A line is good if what comes after its longest prefix of joined spellings
-- can still become a spelling; its items are those of that prefix.
pub record IsGoodLine (line : List ℕ) (count : ℕ) (known : Option (List Item)) (pending : List ℕ) : Type 0 where
  pub prefix : List ℕ
  pub items : List Item
  pub longest : IsLongestPrefix line prefix pending
  pub joining : IsJoining prefix items
  pub can_become : CanBecomeSpelling pending
  pub count_is : count ≡ min (length prefix) most_bytes
  pub known_is : known ≡ kept items

-- These are the facts of an open line.
abbrev pub AreLineFacts : List ℕ → LineFacts → Type 0
AreLineFacts line (Faulty column) = IsFaultyLine line column
AreLineFacts line (Good prefix_length items pending) = IsGoodLine line prefix_length items pending
