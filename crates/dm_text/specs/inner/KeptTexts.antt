-- How a text is kept: at the start of a buffer for the most bytes.
use Rattle.std.specs.Prelude.{ℕ, List, take}

-- A text that is kept in a buffer is its bytes.
pub record KeptText : Type 0 where
  pub items : List ℕ

-- The text of so many bytes is the prefix of its buffer.
abbrev pub kept_text : ℕ → List ℕ → KeptText
kept_text count buffer = record { items = take count buffer }
