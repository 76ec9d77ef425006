-- The units of ASCII that are written are units.
use Rattle.dm_words.proofs.Names.{◌≡◌, ◌≢◌, ℕ, ◌+◌, ◌-◌, ◌<◌, List, [], ◌∷◌, ◌++◌, length, take, drop, get_or, refl}
use Rattle.dm_words.proofs.Names.{sym, ap, subst, ◌∙◌, arith, true, Some, None, at_drop_more, recursion_from_All}
use Rattle.dm_words.proofs.Names.{Extent, Item, Byte, Fnc1, Codeword, codeword_of, byte_of, IsItem, IsMessage}
use Rattle.dm_words.proofs.Names.{IsAsciiUnit, fnc1, is_digit, digit_pair, item_words, unit_cost, is_digit_item}
use Rattle.dm_words.proofs.Names.{NoUnlatchFirst, IsPartWritten, nat_tests}
use Rattle.dm_words.specs.Plain as plainly
use Rattle.dm_words.specs.Parts.{ascii}
use Rattle.dm_words.proofs.AsciiWords.{single_spells, pair_spells}

-- A codeword that has a meaning isn't the unlatch.
has_meaning : (word : ℕ) (meaning : Codeword) → codeword_of word ≡ Some meaning → word ≢ 254
has_meaning word meaning is e = (let none : codeword_of word ≡ None = ap codeword_of e in cc)

-- A unit begins with no unlatch.
unit_begins : (words : List ℕ) (items : List Item) → IsAsciiUnit words items → (0 < length words) × NoUnlatchFirst words
unit_begins words items h1 = grind (arith, nat_tests, has_meaning)

-- A unit was written.
pub unit_written : (extent : Extent) (total : ℕ) (old new words : List ℕ) (items : List Item)
    → IsAsciiUnit words items → new ≡ old ++ words → IsPartWritten extent total old new items
unit_written extent total old new words items unit is =
    let b = unit_begins words items unit in
    record {
      part = words;
      some = b.0;
      begins = b.1;
      whole = is;
      right = λ after fills first. ascii unit;
      plain = λ after fills first. plainly.ascii unit;
    }

-- An item by itself is a unit.
item_unit : (x : Item) → IsItem x → IsAsciiUnit (item_words x) (x ∷ [])
item_unit (Byte b) fit = single_spells b fit []
item_unit Fnc1 fit = fnc1 232 refl refl refl

-- Two digits are a unit.
pair_unit : (x y : Item) → is_digit_item x ≡ true → is_digit_item y ≡ true
    → IsAsciiUnit (digit_pair (byte_of x) (byte_of y) ∷ []) (x ∷ y ∷ [])
pair_unit (Byte b) (Byte c) hb hc = pair_spells b c hb hc
pair_unit (Byte b) Fnc1 hb hc = absurd cc
pair_unit Fnc1 y hb hc = absurd cc

-- The byte of a digit is a digit.
pub digit_byte : (x : Item) (b : ℕ) → is_digit_item x ≡ true → b ≡ byte_of x → is_digit b ≡ true
digit_byte x b h1 h2 = grind (arith, nat_tests, is_digit)

-- An item has this many codewords by itself.
pub length-item_words : (x : Item) → length (item_words x) ≡ unit_cost x
length-item_words x = grind arith

-- An item of a message is a byte of 0 to 255, or FNC1.
item_fits : (m : List Item) (i : ℕ) (d : Item) → i < length m → IsMessage m → IsItem (get_or m i d)
item_fits m i d lt fit = grind (arith, nat_tests, at_drop_more, recursion_from_All)

-- One item, and two.
take_one : (m : List Item) (i : ℕ) (d : Item) → i < length m → take (i + 1 - i) (drop i m) ≡ get_or m i d ∷ []
take_one m i d lt = let one : i + 1 - i ≡ 1 = omega arith in ap (λ (k : ℕ). take k (drop i m)) one
    ∙ ap (take 1) (at_drop_more (λ (l : List Item). l) m i d lt)

take_two : (m : List Item) (i : ℕ) (d : Item) → i + 1 < length m → take (i + 2 - i) (drop i m)
    ≡ get_or m i d ∷ get_or m (i + 1) d ∷ []
take_two m i d lt =
    let two : i + 2 - i ≡ 2 = omega arith in
    ap (λ (k : ℕ). take k (drop i m)) two ∙ ap (take 2) (at_drop_more (λ (l : List Item). l) m i d (omega (arith, lt)))
    ∙ ap (λ (l : List Item). get_or m i d ∷ take 1 l) (at_drop_more (λ (l : List Item). l) m (i + 1) d lt)

-- An item at an index was written by itself.
pub one_written : (extent : Extent) (total : ℕ) (old new words : List ℕ) (m : List Item) (i : ℕ) (d : Item)
    → i < length m → IsMessage m → words ≡ item_words (get_or m i d) → new ≡ old ++ words
    → IsPartWritten extent total old new (take (i + 1 - i) (drop i m))
one_written extent total old new words m i d lt fit are is =
    subst (λ (l : List Item). IsPartWritten extent total old new l) (sym (take_one m i d lt)) (unit_written extent total
    old new words (get_or m i d ∷ []) (rw (sym are) at (item_unit (get_or m i d) (item_fits m i d lt fit))) is)

-- Two digits at an index were written together.
pub two_written : (extent : Extent) (total : ℕ) (old new : List ℕ) (word : ℕ) (m : List Item) (i : ℕ) (d : Item)
    → i + 1 < length m → is_digit_item (get_or m i d) ≡ true → is_digit_item (get_or m (i + 1) d) ≡ true
    → word ≡ digit_pair (byte_of (get_or m i d)) (byte_of (get_or m (i + 1) d)) → new ≡ old ++ word ∷ []
    → IsPartWritten extent total old new (take (i + 2 - i) (drop i m))
two_written extent total old new word m i d lt tens ones are is =
    let x = get_or m i d in
    let y = get_or m (i + 1) d in
    subst (λ (l : List Item). IsPartWritten extent total old new l) (sym (take_two m i d lt))
    (unit_written extent total old new (word ∷ []) (x ∷ y ∷ []) (rw (sym are) at (pair_unit x y tens ones)) is)
