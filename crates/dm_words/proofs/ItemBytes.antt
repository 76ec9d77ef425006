-- What parts spell are bytes of 0 to 255.
use Rattle.dm_words.proofs.Names.{◌≡◌, ℕ, ◌<◌, List, [], ◌∷◌, ◌++◌, map, arith, Some, AllByRecursion, nat_tests}
use Rattle.dm_words.proofs.Names.{Extent, Item, CodeSet, Shift, shifted_of, Piece, gathered, whats, IsItem}
use Rattle.dm_words.proofs.Names.{byte_items, IsAsciiUnit, character, digits, fnc1, raised, IsCharacter, IsSpelling}
use Rattle.dm_words.proofs.Names.{codeword_of, AreBytes, IsGroup, edifact_byte, IsEdifactEnd, IsPart, run, segment}
use Rattle.dm_words.proofs.Names.{edifact}
use Rattle.dm_words.specs.declared.c40.set.Shifted.TheVariants as shifted
use Rattle.dm_words.specs.Values.{plain}
use Rattle.dm_words.specs.Values as values
use Rattle.dm_words.specs.declared.codeword.Codeword.TheVariants as codeword
use Rattle.dm_words.specs.Parts.{ascii}
use Rattle.dm_words.proofs.AsciiWords.{AreItems, character_is, digits_are}
use Rattle.dm_words.proofs.Pieces.{all-append}

-- A byte after a shift is below 128.
shifted_byte : (set : CodeSet) (shift : Shift) (v b : ℕ) → shifted_of set shift v ≡ Some (shifted.Character b) → b < 128
shifted_byte set shift v b h1 = grind (arith, nat_tests)

-- A character of a run is below 128.
pub character_byte : (set : CodeSet) (vs : List ℕ) (b : ℕ) → IsCharacter set vs b → b < 128
character_byte set vs b h1 = grind (arith, nat_tests, shifted_byte)

-- The item of a spelling is a byte of 0 to 255 or FNC1.
spelling_item : (set : CodeSet) (vs : List ℕ) (item : Item) → IsSpelling set vs item → IsItem item
spelling_item set vs item (values.character b c i) = let lt = character_byte set vs b c in rw i (omega (arith, lt))
spelling_item set vs item (values.fnc1 s i) = rw i (omega arith)
spelling_item set vs item (values.raised upper more b u c w i) = let lt =
    character_byte set more b c in rw i (omega (arith, lt))

-- The items of all spellings are items.
spellings_items : (set : CodeSet) (ps : List (Piece Item)) → AllByRecursion (λ p. IsSpelling set p.words p.what) ps
    → AreItems (whats ps)
spellings_items set [] h = tt
spellings_items set (p ∷ ps) h = (spelling_item set p.words p.what h.0, spellings_items set ps h.1)

-- Bytes as items are items.
bytes_items : (bs : List ℕ) → AreBytes bs → AreItems (byte_items bs)
bytes_items [] h = tt
bytes_items (b ∷ bs) h = (h.0, bytes_items bs h.1)

-- The items of a unit are items.
unit_items : (words : List ℕ) (items : List Item) → IsAsciiUnit words items → AreItems items
unit_items words items (character w b k e i) = let is = character_is w b k in rw i (omega (arith, is.1), tt)
unit_items words items (digits w n k e i) = let is =
    digits_are w n k in rw i (omega (arith, is.1), (omega (arith, is.1), tt))
unit_items words items (fnc1 w k e i) = rw i (omega arith, tt)
unit_items words items (raised s w b k l e i) = let is = character_is w b l in rw i (omega (arith, is.1), tt)

-- Each value is below 64.
abbrev pub AreSixBits : List ℕ → Type 0
AreSixBits values = AllByRecursion (λ v. v < 64) values

-- The values of a group are below 64.
group_small : (words values : List ℕ) → IsGroup words values → AreSixBits values
group_small words values g = rw g.values_are (g.first_small, (g.second_small, (g.third_small, (g.fourth_small, tt))))

-- The values of groups are below 64.
pub groups_small : (ps : List (Piece (List ℕ))) → AllByRecursion (λ p. IsGroup p.words p.what) ps
    → AreSixBits (gathered ps)
groups_small [] h = tt
groups_small (p ∷ ps) h =
    all-append (λ v. v < 64) p.what (gathered ps) (group_small p.words p.what h.0) (groups_small ps h.1)

-- The values before an unlatch are below 64.
pub end_small : (end after last : List ℕ) → IsEdifactEnd end after last → AreSixBits last
end_small end after last h1 = grind (arith, nat_tests, group_small)

-- The byte of a value below 64 is below 128.
edifact_byte_small : (v : ℕ) → v < 64 → edifact_byte v < 256
edifact_byte_small v h1 = grind (arith, nat_tests)

-- The bytes of values below 64 are items.
edifact_values_items : (vs : List ℕ) → AreSixBits vs → AreItems (byte_items (map edifact_byte vs))
edifact_values_items [] h = tt
edifact_values_items (v ∷ vs) h = (edifact_byte_small v h.0, edifact_values_items vs h.1)

-- The items of a part are items.
pub part_items : (extent : Extent) (place : ℕ) (words after : List ℕ) (items : List Item)
    → IsPart extent place words after items → AreItems items
part_items extent place words after items (ascii u) = unit_items words items u
part_items extent place words after items (run set r) =
    rw r.items_are (spellings_items set r.spellings r.each_spelling)
part_items extent place words after items (segment s) = rw s.items_are (bytes_items s.bytes s.in_range)
part_items extent place words after items (edifact is r) =
    rw r.items_are (edifact_values_items (gathered r.groups ++ r.last)
    (all-append (λ v. v < 64) (gathered r.groups) r.last (groups_small r.groups r.each) (end_small _ _ _ r.ended)))

-- The digit of a macro is a byte.
pub macro_byte : (w digit : ℕ) → codeword_of w ≡ Some (codeword.Macro digit) → digit < 256
macro_byte w digit e = grind (arith, nat_tests)
