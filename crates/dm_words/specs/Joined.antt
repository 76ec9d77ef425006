-- Lists that are cut into pieces.
use Rattle.std.specs.Prelude.{ℕ, ◌+◌, List, [], ◌∷◌, ◌++◌, length}

-- A piece is some numbers of a list, which are codewords or the values of a run, and what they stand for.
pub record Piece (A : Type 0) : Type 0 where
  pub words : List ℕ
  pub what : A

module _ {A : Type 0} where
  -- The words of all pieces are joined in order.
  abbrev pub spelled : List (Piece A) → List ℕ
  spelled [] = []
  spelled (piece ∷ pieces) = piece.words ++ spelled pieces

  -- Each piece is right where it stands, which depends on its place and on all that follows it, up to the end of the
  -- list. The first piece
  -- stands at `place`, and `after` follows the last one.
  abbrev pub AreJoined : (ℕ → List ℕ → List ℕ → A → Type 0) → ℕ → List (Piece A) → List ℕ → Type 0
  AreJoined IsRight place [] after = Unit {0}
  AreJoined IsRight place (piece ∷ pieces) after =
      IsRight place piece.words (spelled pieces ++ after) piece.what × AreJoined IsRight (place + length piece.words)
      pieces after

module _ {B : Type 0} where
  -- Where each piece stands for a list, these lists are joined in order.
  abbrev pub gathered : List (Piece (List B)) → List B
  gathered [] = []
  gathered (piece ∷ pieces) = piece.what ++ gathered pieces
