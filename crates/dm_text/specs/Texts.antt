-- Texts, split at LF.
use Rattle.std.specs.Prelude.{◌≡◌, ◌≢◌, ℕ, List, [], ◌∷◌, ◌++◌, flat_map}
use Rattle.std.specs.List.{AllByRecursion}

-- The byte LF ends a line.
abbrev pub lf : ℕ
lf = 10

-- None of the bytes is LF.
abbrev pub HasNoLf : List ℕ → Type 0
HasNoLf bytes = AllByRecursion (λ b. b ≢ lf) bytes

-- Lines are written each followed by LF.
abbrev pub ended_lines : List (List ℕ) → List ℕ
ended_lines lines = flat_map (λ line. line ++ lf ∷ []) lines

-- A text is split at LF into lines without LF, each followed by LF, and a rest without LF.
pub record IsSplit (text : List ℕ) (lines : List (List ℕ)) (rest : List ℕ) : Type 0 where
  pub whole : text ≡ ended_lines lines ++ rest
  pub lines_no_lf : AllByRecursion HasNoLf lines
  pub rest_no_lf : HasNoLf rest

-- The end of a text closes one more line: the bytes after the last LF, if there are any.
abbrev pub last_line : List ℕ → List (List ℕ)
last_line [] = []
last_line (b ∷ rest) = (b ∷ rest) ∷ []
