-- Where the ECI designators of a content stand among its codewords, each behind its ECI, 241.
use Rattle.std.specs.Prelude.{◌≡◌, ℕ, ◌+◌, List, [], ◌∷◌, ◌++◌, length}
use Rattle.dm_words.specs.declared.extent.Extent.TheVariants.{Wide}
use Rattle.dm_words.specs.declared.contents.fault.ContentFault.{ContentFault}
use Rattle.dm_words.specs.declared.contents.mark.Mark.{Mark}
use Rattle.dm_words.specs.declared.contents.opening.Opening.{Opening}
use Rattle.dm_words.specs.Joined.{Piece}
use Rattle.dm_words.specs.Contents.{Said, Items, Number, AreOpened, AreContentParts, IsRefused}

-- A part behind this many codewords is the designator of a number, with its ECI before it, or is none.
abbrev pub designation : ℕ → Said → List Mark
designation before (Items items) = []
designation before (Number number) = record { place = before; number = number } ∷ []

-- The designators among parts, the first of which stands behind this many codewords, in order. Each is a mark whose
-- place counts the codewords before its ECI, and not the items.
abbrev pub designations : ℕ → List (Piece Said) → List Mark
designations before [] = []
designations before (piece ∷ pieces) =
    designation before piece.what ++ designations (before + length piece.words) pieces

-- These are the designators of the content that the words say in the wide extent, in order; or the words are refused
-- there, and there are none, not even those before the fault. A 241 in the head of a content, in a run or a segment, in
-- a designator or behind the first pad isn't the ECI of one.
pub data AreDesignations (words : List ℕ) (found : List Mark) : Type 0 where
  of_content : (opening : Opening) (place : ℕ) (more : List ℕ) (opened : AreOpened Wide words opening place more)
      (said : List Said) (parts : AreContentParts Wide place more said)
      → found ≡ designations (length opened.first) parts.parts → AreDesignations words found
  of_refused : (why : ContentFault) → IsRefused Wide words why → found ≡ [] → AreDesignations words found
