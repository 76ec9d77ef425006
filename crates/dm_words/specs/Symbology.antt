-- The symbology identifier of a symbol (ISO/IEC 15424, ISO/IEC 16022, symbology identifiers): `]d` and one of these
-- numbers, 1 to 6. FNC1 counts where it is a codeword of its own, 232 in ASCII encodation, by its place among the
-- codewords and not among the items. So the number belongs to the codewords and not to the content that they say.
use Rattle.std.specs.Prelude.{◌≡◌, ◌↔◌, ℕ, ◌+◌, List, ◌∷◌, ◌++◌, length, ◌==◌, if◌then◌else◌}
use Rattle.dm_words.specs.declared.extent.Extent.TheVariants.{Wide}
use Rattle.dm_words.specs.declared.contents.opening.Opening.{Opening}
use Rattle.dm_words.specs.Heads.{head_words}
use Rattle.dm_words.specs.Joined.{Piece, spelled, AreJoined}
use Rattle.dm_words.specs.declared.profile.Profile.TheVariants.{Ascii}
use Rattle.dm_words.specs.ContentForm.{content_form}
use Rattle.dm_words.specs.Contents.{ContentView, Said, IsContentPart, AreOpened}

-- FNC1 is a codeword of its own at a place: the words are an opening and parts, and then FNC1, 232, stands where the
-- next part begins. One that a run spells, one that is a number of Base 256 and one behind the first pad are none.
pub record IsFnc1At (words : List ℕ) (place : ℕ) : Type 0 where
  pub opening : Opening
  pub start : ℕ
  pub more : List ℕ
  pub opened : AreOpened Wide words opening start more
  pub parts : List (Piece Said)
  pub after : List ℕ
  pub joined : AreJoined (IsContentPart Wide) start parts (232 ∷ after)
  pub whole : more ≡ spelled parts ++ 232 ∷ after
  pub place_is : place ≡ start + length (spelled parts)

-- With so many codewords of a head before them, the number is 2 where the first codeword is FNC1, 3 where the second
-- one is and the first one isn't, and else 1.
pub data IsFnc1Number (words : List ℕ) (behind number : ℕ) : Type 0 where
  first : IsFnc1At words (behind + 1) → number ≡ 2 → IsFnc1Number words behind number
  second : (IsFnc1At words (behind + 1) → ⊥) → IsFnc1At words (behind + 2) → number ≡ 3
      → IsFnc1Number words behind number
  neither : (IsFnc1At words (behind + 1) → ⊥) → (IsFnc1At words (behind + 2) → ⊥) → number ≡ 1
      → IsFnc1Number words behind number

-- Where the codewords say this content, their identifier has this number: that of FNC1, and 3 more where there is a
-- mark.
pub record IsIdentifier (words : List ℕ) (content : ContentView) (number : ℕ) : Type 0 where
  pub fnc1 : ℕ
  pub is_fnc1 : IsFnc1Number words (length (head_words content.head)) fnc1
  pub number_is : number ≡ fnc1 + (if length content.marks == 0 then 0 else 3)

-- The identifier of the words, which say the content, is that of its ASCII form.
abbrev pub KeepsIdentifier : List ℕ → ContentView → Type 0
KeepsIdentifier words content = (number : ℕ) → IsIdentifier words content number
    ↔ IsIdentifier (content_form Ascii content) content number
