-- What feeding pieces of a text to a `LineFeed` does.
use Rattle.std.specs.Prelude.{◌≡◌, ◌+◌, ℕ, List, [], ◌∷◌, ◌++◌, length, drop, Result}
use Rattle.dm_symbol.specs.declared.Item.{Item}
use Rattle.dm_text.specs.declared.message_line.LineFault.{LineFault}
use Rattle.dm_text.specs.MessageLines.{IsLine}
use Rattle.dm_text.specs.LineFacts.{LineFacts, AreLineFacts}
use Rattle.dm_text.specs.Texts.{HasNoLf, lf, IsSplit}

-- A line means its message or its fault.
abbrev pub LineMeaning : Type 0
LineMeaning = Result (List Item) LineFault

-- A piece without LF leaves the line open: it is taken as a whole, and the open line is longer by it.
pub record LeavesLineOpen (old : LineFacts) (piece : List ℕ) (taken : ℕ) (new : LineFacts) : Type 0 where
  pub whole : taken ≡ length piece
  pub no_lf : HasNoLf piece
  pub grown : (line : List ℕ) → AreLineFacts line old → AreLineFacts (line ++ piece) new

-- The first LF of a piece closes the line: the piece is taken up to and including
-- it, the line has this meaning, and then none is open.
pub record ClosesLine (old : LineFacts) (piece : List ℕ) (taken : ℕ) (meaning : LineMeaning) (new : LineFacts) : Type 0
  where
    pub before : List ℕ
    pub after : List ℕ
    pub piece_is : piece ≡ before ++ lf ∷ after
    pub no_lf : HasNoLf before
    pub taken_is : taken ≡ length before + 1
    pub means : (line : List ℕ) → AreLineFacts line old → IsLine (line ++ before) meaning
    pub empty : AreLineFacts [] new

-- Pieces fed one after another, each until all of it is taken, close lines with these meanings.
pub data AreLinesFed : LineFacts → List (List ℕ) → List LineMeaning → LineFacts → Type 0 where
  no_piece : (facts : LineFacts) → AreLinesFed facts [] [] facts
  leaves_open : (old mid new : LineFacts) (piece : List ℕ) (taken : ℕ) (pieces : List (List ℕ))
      (meanings : List LineMeaning)
      → LeavesLineOpen old piece taken mid → AreLinesFed mid pieces meanings new →
      AreLinesFed old (piece ∷ pieces) meanings new
  closes : (old mid new : LineFacts) (piece : List ℕ) (taken : ℕ) (meaning : LineMeaning) (pieces : List (List ℕ))
      (meanings : List LineMeaning)
      → ClosesLine old piece taken meaning mid → AreLinesFed mid (drop taken piece ∷ pieces) meanings new
      → AreLinesFed old (piece ∷ pieces) (meaning ∷ meanings) new

-- Each line has its meaning.
abbrev pub AreMeanings : List (List ℕ) → List LineMeaning → Type 0
AreMeanings [] [] = Unit {0}
AreMeanings (line ∷ lines) (meaning ∷ meanings) = IsLine line meaning × AreMeanings lines meanings
AreMeanings _ _ = ⊥

-- Feeding pieces gives the meanings of the lines in the text that they make together: of those that an LF ends, and
-- the rest is left open.
pub record AreOfText (text : List ℕ) (meanings : List LineMeaning) (new : LineFacts) : Type 0 where
  pub lines : List (List ℕ)
  pub rest : List ℕ
  pub split : IsSplit text lines rest
  pub each : AreMeanings lines meanings
  pub left : AreLineFacts rest new
