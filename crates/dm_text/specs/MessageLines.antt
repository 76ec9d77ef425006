-- What a message line means: its message, or its fault.
use Rattle.std.specs.Prelude.{◌≡◌, ◌≤◌, ◌<◌, ◌+◌, ◌-◌, ◌^◌, min, ℕ, List, ◌++◌, length, Result, Ok, Err}
use Rattle.dm_symbol.specs.Messages.{most_items}
use Rattle.dm_symbol.specs.declared.Item.{Item}
use Rattle.dm_text.specs.declared.message_line.LineFault.{LineFault}
use Rattle.dm_text.specs.declared.message_line.LineFault.TheVariants.{BadEscape, TooLong}
use Rattle.dm_text.specs.Spellings.{IsJoined, IsJoining}

-- A count of bytes or a column in a line never exceeds this number, the largest that a u64 holds.
abbrev pub most_bytes : ℕ
most_bytes = 2 ^ 64 - 1

-- This prefix of a line is the longest that is joined spellings, and this is the rest after it.
pub record IsLongestPrefix (line prefix rest : List ℕ) : Type 0 where
  pub whole : line ≡ prefix ++ rest
  pub joined : IsJoined prefix
  pub longest : (other after : List ℕ) → line ≡ other ++ after → IsJoined other → length other ≤ length prefix

-- The column after some bytes is that of the next byte; columns count bytes from 1.
abbrev pub column_after : List ℕ → ℕ
column_after prefix = min (length prefix + 1) most_bytes

-- A line has a bad escape if it isn't joined spellings; its column is the one after the longest prefix that is.
pub record IsBadEscape (line : List ℕ) (column : ℕ) : Type 0 where
  pub prefix : List ℕ
  pub rest : List ℕ
  pub longest : IsLongestPrefix line prefix rest
  pub broken : IsJoined line → ⊥
  pub column_is : column ≡ column_after prefix

-- A line means the items whose spellings it joins, if they aren't too many, and else its fault.
abbrev pub IsLine : List ℕ → Result (List Item) LineFault → Type 0
IsLine line (Ok items) = IsJoining line items × (length items ≤ most_items)
IsLine line (Err TooLong) = (items : List Item) × IsJoining line items × (most_items < length items)
IsLine line (Err (BadEscape column)) = IsBadEscape line column
