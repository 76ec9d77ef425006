-- Plain parts are parts.
use Rattle.dm_words.proofs.Names.{ℕ, List, [], ◌∷◌, ◌++◌, ◌+◌, length, refl, Wide, Item, Piece, spelled, AreJoined}
use Rattle.dm_words.proofs.Names.{Said, IsContentPart, IsPlainPart, IsPlainSaid, IsPart}
use Rattle.dm_words.specs.Contents as contents
use Rattle.dm_words.specs.Plain.{ascii, run, segment, edifact, part, mark}
use Rattle.dm_words.specs.Parts as spells
use Rattle.dm_words.proofs.Extents.{part_wider}

-- A plain part is a part.
pub plain_part : (place : ℕ) (words after : List ℕ) (items : List Item) → IsPlainPart place words after items
    → IsPart Wide place words after items
plain_part place words after items (ascii unit) = spells.ascii unit
plain_part place words after items (run set r none some) = part_wider place words after items (spells.run set r)
plain_part place words after items (segment s some) = spells.segment s
plain_part place words after items (edifact r some) = spells.edifact refl r

-- So it is in a content.
pub plain_said : (place : ℕ) (words after : List ℕ) (said : Said) → IsPlainSaid place words after said
    → IsContentPart Wide place words after said
plain_said place words after said (part items p is) = contents.part items (plain_part place words after items p) is
plain_said place words after said (mark d number e whole is) = contents.mark d number refl e whole is

-- And where they are joined.
pub plain_joined : (place : ℕ) (ps : List (Piece Said)) (after : List ℕ) → AreJoined IsPlainSaid place ps after
    → AreJoined (IsContentPart Wide) place ps after
plain_joined place [] after h = tt
plain_joined place (p ∷ ps) after h = (
  plain_said place p.words (spelled ps ++ after) p.what h.0,
  plain_joined (place + length p.words) ps after h.1,
)
