-- Which data codewords of a symbol say which content in an extent of reading, and which are refused (ISO/IEC 16022,
-- encodation schemes, ECI encodation, structured append, reader programming, 05 and 06 macro characters). The words are
-- all data codewords of the symbol, each of 0 to 255, so their end is the end of the symbol. Heads, marks, macros and
-- EDIFACT are read in the wide extent alone. The extents, what is left out, which fault is named and at which place,
-- and that the places of marks count items, the header of a macro with them, are choices of this project.
use Rattle.std.specs.Prelude.{◌≡◌, ◌≢◌, ℕ, ◌+◌, ◌*◌, ◌≤◌, List, [], ◌∷◌, ◌++◌, length, Option, Some, None, ◌⊎◌}
use Rattle.std.specs.Prelude.{◌==◌, if◌then◌else◌, map}
use Rattle.dm_words.specs.declared.extent.Extent.{Extent}
use Rattle.dm_words.specs.declared.extent.Extent.TheVariants.{Wide}
use Rattle.dm_words.specs.declared.item.Item.{Item}
use Rattle.dm_words.specs.declared.fault.WordFault.{WordFault}
use Rattle.dm_words.specs.declared.codeword.Codeword.TheVariants as codeword
use Rattle.dm_words.specs.declared.c40.set.CodeSet.{CodeSet}
use Rattle.dm_words.specs.declared.contents.fault.ContentFault.{ContentFault}
use Rattle.dm_words.specs.declared.contents.fault.ContentFault.TheVariants as fault
use Rattle.dm_words.specs.declared.contents.head.Head.{Head}
use Rattle.dm_words.specs.declared.contents.mark.Mark.{Mark}
use Rattle.dm_words.specs.declared.contents.opening.Opening.{Opening}
use Rattle.dm_words.specs.declared.contents.opening.Opening.TheVariants.{Plain, Headed, Framed}
use Rattle.dm_words.specs.Codewords.{codeword_of}
use Rattle.dm_words.specs.Messages.{IsMessage}
use Rattle.dm_words.specs.Joined.{Piece, spelled, AreJoined}
use Rattle.dm_words.specs.Macros.{macro_text}
use Rattle.dm_words.specs.Parts.{IsPart, IsEnd}
use Rattle.dm_words.specs.Faults.{IsFault}
use Rattle.dm_words.specs.Designators.{eci_word, most_assigned, IsDesignator}
use Rattle.dm_words.specs.Heads.{IsHead, SpellsHead}

-- A content is a head or none, items, and marks. A mark is the number of an ECI assignment at a place, which is the
-- count of the items before it.
pub record ContentView : Type 0 where
  pub head : Option Head
  pub items : List Item
  pub marks : List Mark

-- The places of the marks come in order, none is below the first number or above the second, and each mark has a number
-- of 0 to 999999.
abbrev pub AreMarks : ℕ → ℕ → List Mark → Type 0
AreMarks least most [] = least ≤ most
AreMarks least most (mark ∷ marks) =
    (least ≤ mark.place) × (mark.number ≤ most_assigned) × AreMarks mark.place most marks

-- A content has a right head or none, items that are bytes of 0 to 255 or FNC1, and marks in order, none of which
-- stands behind more items than there are.
pub record IsContent (content : ContentView) : Type 0 where
  pub head : IsHead content.head
  pub items : IsMessage content.items
  pub marks : AreMarks 0 (length content.items) content.marks

-- So many of the codewords are 241, which is ECI in ASCII encodation. What they say has no more marks.
unfoldable pub eci_count : List ℕ → ℕ
eci_count [] = 0
eci_count (word ∷ words) = (if word == eci_word then 1 else 0) + eci_count words

-- There is room for the marks that these codewords can say: one for each two of them, or one for each ECI.
abbrev pub HasMarkRoom : ℕ → List ℕ → Type 0
HasMarkRoom room words = (length words ≤ 2 * room) ⊎ (eci_count words ≤ room)

-- This is the content with one more mark of this number, behind all of its items.
abbrev pub with_mark : ContentView → ℕ → ContentView
with_mark content number =
    record content { marks = content.marks ++ record { place = length content.items; number = number } ∷ [] }

-- ---- parts

-- A part of a content says items, or the number of a mark.
pub data Said : Type 0 where
  Items : List Item → Said
  Number : ℕ → Said

-- A part of a content says the items of a unit of ASCII, a run or a segment; or in the wide extent it is ECI and a
-- designator, which say a mark and no item.
pub data IsContentPart (extent : Extent) (place : ℕ) (words after : List ℕ) (said : Said) : Type 0 where
  part : (items : List Item) → IsPart extent place words after items → said ≡ Items items
      → IsContentPart extent place words after said
  mark : (designator : List ℕ) (number : ℕ) → extent ≡ Wide → IsDesignator designator number
      → words ≡ eci_word ∷ designator → said ≡ Number number → IsContentPart extent place words after said

-- The words from a place on, up to the end of the symbol, are parts of a content, one after the other, and then an end.
pub record AreContentParts (extent : Extent) (place : ℕ) (words : List ℕ) (said : List Said) : Type 0 where
  pub parts : List (Piece Said)
  pub after : List ℕ
  pub joined : AreJoined (IsContentPart extent) place parts after
  pub ended : IsEnd after
  pub whole : words ≡ spelled parts ++ after
  pub said_are : said ≡ map (λ piece. piece.what) parts

-- The items that parts say, in order.
abbrev pub said_items : List Said → List Item
said_items [] = []
said_items (Items items ∷ said) = items ++ said_items said
said_items (Number number ∷ said) = said_items said

-- The marks that parts say, in order, where this many items stand before them.
abbrev pub said_marks : ℕ → List Said → List Mark
said_marks before [] = []
said_marks before (Items items ∷ said) = said_marks (before + length items) said
said_marks before (Number number ∷ said) = record { place = before; number = number } ∷ said_marks before said

-- ---- openings

-- The words are a macro of this digit, alone or behind empty runs, each of which is a latch to C40, Text or X12 and an
-- unlatch, 254. That a macro may stand behind such runs is a rule of this project; an encoder writes so.
abbrev pub AreFrame : List ℕ → ℕ → Type 0
AreFrame [] digit = ⊥
AreFrame (word ∷ []) digit = codeword_of word ≡ Some (codeword.Macro digit)
AreFrame (latch ∷ unlatch ∷ words) digit =
    ((set : CodeSet) × (codeword_of latch ≡ Some (codeword.Latch set))) × (unlatch ≡ 254) × AreFrame words digit

-- In the usual extent a content opens with nothing. In the wide one it opens with a head; or with a macro, behind empty
-- runs or none; or with nothing, where the first codeword of the symbol is neither 233 nor 234, and no macro begins it
-- so. So a content with a head has no macro, and where 233 begins no head there is no opening. `more` are the words
-- behind the opening; where it is nothing, these are all of the symbol.
pub data IsOpening (extent : Extent) (words more : List ℕ) (opening : Opening) : Type 0 where
  headed : (head : Head) → extent ≡ Wide → SpellsHead words head → opening ≡ Headed head
      → IsOpening extent words more opening
  framed : (digit : ℕ) → extent ≡ Wide → AreFrame words digit → opening ≡ Framed digit
      → IsOpening extent words more opening
  plain : words ≡ []
      → (extent ≡ Wide → (word : ℕ) (rest : List ℕ) → (word ≡ 233) ⊎ (word ≡ 234) → more ≢ word ∷ rest)
      → (extent ≡ Wide → (frame rest : List ℕ) (digit : ℕ) → AreFrame frame digit → more ≢ frame ++ rest)
      → opening ≡ Plain → IsOpening extent words more opening

-- ---- contents

-- Behind an opening, parts that say this say this content. The places of marks count the seven items of the header of a
-- macro too.
abbrev pub said_content : Opening → List Said → ContentView
said_content Plain said = record { head = None; items = said_items said; marks = said_marks 0 said }
said_content (Headed head) said = record { head = Some head; items = said_items said; marks = said_marks 0 said }
said_content (Framed digit) said =
    record { head = None; items = macro_text digit (said_items said); marks = said_marks 7 said }

-- The words are an opening and then words from a place on.
pub record AreOpened (extent : Extent) (words : List ℕ) (opening : Opening) (place : ℕ) (more : List ℕ) : Type 0 where
  pub first : List ℕ
  pub is_opening : IsOpening extent first more opening
  pub whole : words ≡ first ++ more
  pub place_is : place ≡ 1 + length first

-- The words say the content in an extent: they are an opening and then parts that say it, with pads behind them or not.
pub record Says (extent : Extent) (words : List ℕ) (content : ContentView) : Type 0 where
  pub opening : Opening
  pub place : ℕ
  pub more : List ℕ
  pub opened : AreOpened extent words opening place more
  pub said : List Said
  pub parts : AreContentParts extent place more said
  pub content_is : content ≡ said_content opening said

-- The codewords from a place on, up to the end of the symbol, have this fault: in the wide extent ECI has no designator
-- behind it; or neither a part nor the end begins there in the extent, and in the wide one they don't begin with ECI.
pub data IsContentFault (extent : Extent) (place : ℕ) (words : List ℕ) (why : ContentFault) : Type 0 where
  designator : (more : List ℕ) → extent ≡ Wide
      → ((first rest : List ℕ) (number : ℕ) → IsDesignator first number → more ≢ first ++ rest)
      → words ≡ eci_word ∷ more → why ≡ fault.Designator place → IsContentFault extent place words why
  word : (of_word : WordFault) → (extent ≡ Wide → (more : List ℕ) → words ≢ eci_word ∷ more)
      → IsFault extent place words of_word → why ≡ fault.Word of_word → IsContentFault extent place words why

-- The words are refused with this fault in an extent: in the wide one they begin with structured append, 233, and with
-- no head; or they are an opening, then parts of a content, one after the other, and then codewords that have the
-- fault.
pub data IsRefused (extent : Extent) (words : List ℕ) (why : ContentFault) : Type 0 where
  no_head : (more : List ℕ) → extent ≡ Wide → words ≡ 233 ∷ more
      → ((first rest : List ℕ) (head : Head) → SpellsHead first head → words ≢ first ++ rest) → why ≡ fault.Append 1
      → IsRefused extent words why
  behind : (opening : Opening) (place : ℕ) (more : List ℕ) → AreOpened extent words opening place more
      → (parts : List (Piece Said)) (after : List ℕ) → AreJoined (IsContentPart extent) place parts after
      → more ≡ spelled parts ++ after → IsContentFault extent (place + length (spelled parts)) after why
      → IsRefused extent words why
