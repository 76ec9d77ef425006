-- The ASCII form of a message spells it, and is the only greedy joining of units.
use Rattle.dm_words.proofs.Names.{◌≡◌, ℕ, zero, suc, ◌+◌, ◌-◌, ◌*◌, ◌/◌, ◌%◌, ◌<◌, ◌≤◌, List, [], ◌∷◌, ◌++◌, length}
use Rattle.dm_words.proofs.Names.{refl, sym, ap, subst, ◌∙◌, arith, Bool, true, false, cond, ltb, ◌&&◌, Some, IsTrue}
use Rattle.dm_words.proofs.Names.{AllByRecursion, nat_tests, append-nil, Extent, Item, Byte, Fnc1, codeword_of, Piece}
use Rattle.dm_words.proofs.Names.{spelled, gathered, AreJoined, IsAsciiUnit, character, digits, fnc1, raised, is_digit}
use Rattle.dm_words.proofs.Names.{digit_pair, single, ascii, IsAscii, further_pads, pads, padded, AreBytes}
use Rattle.dm_words.proofs.Names.{as_content, SaysThenPads, IsPart, IsEnd, pad, AreParts, Spells, IsItem}
use Rattle.dm_words.specs.declared.codeword.Codeword.TheVariants as codeword
use Rattle.dm_words.specs.Ascii.{IsOneDigit, BeginsWithDigit, IsGreedy}
use Rattle.dm_words.specs.Parts.{ascii as ascii_part, nothing}
use Rattle.dm_words.proofs.SpelledContents.{parts_say, parts_spell}
use Rattle.dm_words.proofs.PadWords.{pads_are}
use Rattle.dm_words.proofs.Pieces.{all-append}

-- Each item has a byte of 0 to 255.
abbrev pub AreItems : List Item → Type 0
AreItems m = AllByRecursion IsItem m

-- ---- the words of a unit mean it

-- The codeword of a byte below 128 is the byte and one.
pub character_of : (b : ℕ) → b < 128 → codeword_of (b + 1) ≡ Some (codeword.Character b)
character_of b lt = grind (arith, nat_tests)

-- The codeword of a number below 100 is the number and 130.
pub digits_of : (n : ℕ) → n < 100 → codeword_of (130 + n) ≡ Some (codeword.Digits n)
digits_of n lt = grind (arith, nat_tests)

-- ---- the form from the left spells the message

-- The codewords of a byte by itself are a unit that means it.
pub single_spells : (b : ℕ) → b < 256 → (after : List ℕ) → IsAsciiUnit (single b) (Byte b ∷ [])
single_spells b lt after = by_test (ltb b 128) refl where
  by_test : (t : Bool) → ltb b 128 ≡ t → IsAsciiUnit (cond t ((b + 1) ∷ []) (235 ∷ (b - 127) ∷ [])) (Byte b ∷ [])
  by_test true e = character (b + 1) b (character_of b (grind (arith, nat_tests))) refl refl
  by_test false e =
      let le : 128 ≤ b = grind (arith, nat_tests) in
      let w : b - 127 ≡ (b - 128) + 1 = omega arith in
      let is : Byte b ≡ Byte ((b - 128) + 128) = ap Byte (omega arith) in
      raised 235 (b - 127) (b - 128) refl (rw w (character_of (b - 128) (omega arith))) refl
      (ap (λ (i : Item). i ∷ []) is)

-- The codeword of two digits is a unit that means them.
pub pair_spells : (b c : ℕ) → is_digit b ≡ true → is_digit c ≡ true
    → IsAsciiUnit (digit_pair b c ∷ []) (Byte b ∷ Byte c ∷ [])
pair_spells b c hb hc =
    let lb : (48 ≤ b) × (b ≤ 57) = grind (arith, nat_tests) in
    let lc : (48 ≤ c) × (c ≤ 57) = grind (arith, nat_tests) in
    let n = 10 * (b - 48) + (c - 48) in
    let first : Byte b ≡ Byte (48 + (10 * (b - 48) + (c - 48)) / 10) = ap Byte (omega arith) in
    let second : Byte c ≡ Byte (48 + (10 * (b - 48) + (c - 48)) % 10) = ap Byte (omega arith) in
    digits (130 + n) n (digits_of n (omega arith)) refl (rw (← first, ← second) refl)

-- Units stay greedy with one more before them, unless this is a single digit before a digit.
greedy_more : (u : Piece (List Item)) (us : List (Piece (List Item)))
    → (IsOneDigit u.what → BeginsWithDigit (gathered us) → ⊥) → IsGreedy us → IsGreedy (u ∷ us)
greedy_more u us h1 h2 = grind (arith, nat_tests, gathered)

-- A unit before a message that has units makes a message that has units, unless it is a single digit before a digit.
one_more : (words : List ℕ) (items m : List Item) (rest : List ℕ) → IsAsciiUnit words items
    → (IsOneDigit items → BeginsWithDigit m → ⊥) → IsAscii m rest → IsAscii (items ++ m) (words ++ rest)
one_more words items m rest u apart h =
    let p : Piece (List Item) = record { words = words; what = items } in
    record {
      units = p ∷ h.units;
      each = (u, h.each);
      greedy = greedy_more p h.units (λ one begins. apart one (rw h.items begins)) h.greedy;
      items = ap (λ (r : List Item). items ++ r) h.items;
      whole = ap (λ (r : List ℕ). words ++ r) h.whole;
    }

-- Two bytes that aren't taken together aren't both digits.
not_both : (b c : ℕ) (s t : Bool) → is_digit b ≡ s → is_digit c ≡ t → (s && t) ≡ false → IsTrue (is_digit b)
    → IsTrue (is_digit c) → ⊥
not_both b c s t es et e hb hc = grind (arith, nat_tests)

-- The form from the left of a message is a joining of such units.
pub units_of : (m : List Item) → AreItems m → IsAscii m (ascii m)
units_of [] fit = record { units = []; each = tt; greedy = tt; items = refl; whole = refl }
units_of (Fnc1 ∷ m) fit =
    one_more (232 ∷ []) (Fnc1 ∷ []) m (ascii m) (fnc1 232 refl refl refl) (λ one begins. one) (units_of m fit.1)
units_of (Byte b ∷ []) fit =
    subst (IsAscii (Byte b ∷ [])) (append-nil (single b))
    (one_more (single b) (Byte b ∷ []) [] [] (single_spells b fit.0 []) (λ one begins. begins) (units_of [] tt))
units_of (Byte b ∷ Fnc1 ∷ m) fit =
    one_more _ _ _ _ (single_spells b fit.0 []) (λ one begins. begins) (units_of (Fnc1 ∷ m) fit.1)
units_of (Byte b ∷ Byte c ∷ m) fit =
    both (is_digit b) (is_digit c) refl refl (units_of m fit.1.1) (units_of (Byte c ∷ m) fit.1) where
      both : (s t : Bool) → is_digit b ≡ s → is_digit c ≡ t → IsAscii m (ascii m)
          → IsAscii (Byte c ∷ m) (ascii (Byte c ∷ m))
          → IsAscii (Byte b ∷ Byte c ∷ m) (cond (s && t) (digit_pair b c ∷ ascii m) (single b ++ ascii (Byte c ∷ m)))
      both true true es et h k =
          one_more (digit_pair b c ∷ []) (Byte b ∷ Byte c ∷ []) m (ascii m) (pair_spells b c es et)
          (λ one begins. one) h
      both true false es et h k =
          one_more (single b) (Byte b ∷ []) (Byte c ∷ m) (ascii (Byte c ∷ m)) (single_spells b fit.0 [])
          (not_both b c true false es et refl) k
      both false t es et h k =
          one_more (single b) (Byte b ∷ []) (Byte c ∷ m) (ascii (Byte c ∷ m)) (single_spells b fit.0 [])
          (not_both b c false t es et refl) k

-- Units are parts wherever they stand.
joined_units : (extent : Extent) (place : ℕ) (us : List (Piece (List Item))) (after : List ℕ)
    → AllByRecursion (λ u. IsAsciiUnit u.words u.what) us → AreJoined (IsPart extent) place us after
joined_units extent place [] after h = tt
joined_units extent place (u ∷ us) after h = (ascii_part h.0, joined_units extent (place + length u.words) us after h.1)

-- Pads are an end.
pub pads_end : (place n : ℕ) → IsEnd (pads place n)
pads_end place zero = nothing refl
pads_end place (suc n) = pad 129 (further_pads (place + 1) n) refl refl

-- The form from the left of a message, with pads, is parts of it.
ascii_parts : (extent : Extent) (m : List Item) (count : ℕ) → AreItems m
    → AreParts extent 1 (padded (ascii m) count) m
ascii_parts extent m count fit =
    let h = units_of m fit in
    let after = pads (length (ascii m) + 1) (count - length (ascii m)) in
    record {
      parts = h.units;
      after = after;
      whole = ap (λ (r : List ℕ). r ++ after) h.whole;
      joined = joined_units extent 1 h.units after h.each;
      ended = pads_end (length (ascii m) + 1) (count - length (ascii m));
      items_are = h.items;
    }

-- It spells the message.
pub ascii_spells : (extent : Extent) (m : List Item) (count : ℕ) → AreItems m → Spells extent (padded (ascii m) count) m
ascii_spells extent m count fit = parts_spell extent (padded (ascii m) count) m (ascii_parts extent m count fit)

-- It has only pads behind it.
pub ascii_padded : (extent : Extent) (m : List Item) (count : ℕ) → AreItems m
    → SaysThenPads extent (padded (ascii m) count) (as_content m)
unfolding ascii_parts
ascii_padded extent m count fit = parts_say extent _ m (ascii_parts extent m count fit) (pads_are (ascii m) count)

-- The codewords of a byte by itself are 0 to 255.
single_bytes : (b : ℕ) → b < 256 → AreBytes (single b)
single_bytes b lt = grind (arith, nat_tests, ltb, cond)

-- The codeword of two digits is 0 to 255.
pair_byte : (b c : ℕ) → is_digit b ≡ true → is_digit c ≡ true → digit_pair b c < 256
pair_byte b c hb hc = grind (arith, nat_tests)

-- The form from the left of a message is a list of codewords.
pub ascii_bytes : (m : List Item) → AreItems m → AreBytes (ascii m)
ascii_bytes [] fit = tt
ascii_bytes (Fnc1 ∷ m) fit = (omega arith, ascii_bytes m fit.1)
ascii_bytes (Byte b ∷ []) fit = single_bytes b fit.0
ascii_bytes (Byte b ∷ Fnc1 ∷ m) fit =
    all-append (λ w. w < 256) (single b) (ascii (Fnc1 ∷ m)) (single_bytes b fit.0) (ascii_bytes (Fnc1 ∷ m) fit.1)
ascii_bytes (Byte b ∷ Byte c ∷ m) fit =
    let rest = ascii_bytes (Byte c ∷ m) fit.1 in
    grind (arith, nat_tests, ascii, pair_byte, all-append, single_bytes, rest, ascii_bytes m fit.1.1)

-- ---- it is the only one

-- A codeword that is a character is its byte and one.
pub character_is : (w b : ℕ) → codeword_of w ≡ Some (codeword.Character b) → (w ≡ b + 1) × (b < 128)
character_is w b e = grind (arith, nat_tests)

-- A codeword that is a digit pair is its number and 130.
pub digits_are : (w n : ℕ) → codeword_of w ≡ Some (codeword.Digits n) → (w ≡ n + 130) × (n < 100)
digits_are w n e = grind (arith, nat_tests)

-- Only 232 is FNC1.
fnc1_is : (w : ℕ) → codeword_of w ≡ Some (codeword.Fnc1) → w ≡ 232
fnc1_is w e = grind (arith, nat_tests)

-- Only 235 is the Upper Shift.
shift_is : (w : ℕ) → codeword_of w ≡ Some (codeword.UpperShift) → w ≡ 235
shift_is w e = grind (arith, nat_tests)

-- A byte that isn't taken together with the next one stands alone.
ascii_single : (b : ℕ) (rest : List Item) → (IsTrue (is_digit b) → BeginsWithDigit rest → ⊥) → ascii (Byte b ∷ rest)
    ≡ single b ++ ascii rest
ascii_single b rest h1 = grind (arith, nat_tests, append-nil, is_digit, digit_pair)

-- Two digits that come first are taken together.
ascii_pair : (b c : ℕ) (rest : List Item) → is_digit b ≡ true → is_digit c ≡ true → ascii (Byte b ∷ Byte c ∷ rest)
    ≡ digit_pair b c ∷ ascii rest
ascii_pair b c rest hb hc = rw (hb, hc) refl

-- Where the items of units begin with a digit, so do those of the first unit.
first_begins : (u : Piece (List Item)) (us : List (Piece (List Item))) → IsAsciiUnit u.words u.what
    → BeginsWithDigit (gathered (u ∷ us)) → BeginsWithDigit u.what
first_begins u us h1 h2 = grind (arith, nat_tests)

-- No single digit stands before what the further units mean, where that begins with a digit.
apart_from : (u : Piece (List Item)) (us : List (Piece (List Item)))
    → AllByRecursion (λ u. IsAsciiUnit u.words u.what) us → IsGreedy (u ∷ us) → IsOneDigit u.what
    → BeginsWithDigit (gathered us) → ⊥
apart_from u us h1 h2 h3 h4 = grind (arith, nat_tests, first_begins)

-- The units behind a greedy prefix are greedy.
greedy_rest : (u : Piece (List Item)) (us : List (Piece (List Item))) → IsGreedy (u ∷ us) → IsGreedy us
greedy_rest u us h1 = grind (arith, nat_tests)

-- The form of a message that begins with the items of a unit begins with that unit.
unit_first : (words : List ℕ) (items rest : List Item) → IsAsciiUnit words items
    → (IsOneDigit items → BeginsWithDigit rest → ⊥) → ascii (items ++ rest) ≡ words ++ ascii rest
unit_first words items rest (character w b k e i) apart =
    let is = character_is w b k in
    let one : single b ≡ w ∷ [] = (let t : ltb b 128 ≡ true = grind (arith, nat_tests) in rw (t, is.0) refl) in
    let far = rw i at apart in
    rw (i, e) (ascii_single b rest far ∙ ap (λ (r : List ℕ). r ++ ascii rest) one)
unit_first words items rest (digits w n k e i) apart =
    let is = digits_are w n k in
    let hb : is_digit (48 + n / 10) ≡ true = (let l : n / 10 ≤ 9 = omega arith in grind (arith, nat_tests)) in
    let hc : is_digit (48 + n % 10) ≡ true = (let l : n % 10 ≤ 9 = omega arith in grind (arith, nat_tests)) in
    let value : digit_pair (48 + n / 10) (48 + n % 10) ≡ w = omega (arith, is.0) in
    rw (i, e) (ascii_pair (48 + n / 10) (48 + n % 10) rest hb hc ∙ ap (λ (v : ℕ). v ∷ ascii rest) value)
unit_first words items rest (fnc1 w k e i) apart = rw (i, e, fnc1_is w k) refl
unit_first words items rest (raised s w b k l e i) apart =
    let is = character_is w b l in
    let none : IsTrue (is_digit (b + 128)) → BeginsWithDigit rest
    → ⊥ = λ h g. (let t : is_digit (b + 128) ≡ false = grind (arith, nat_tests) in cc) in
    let two : single (b + 128)
    ≡ s ∷ w ∷ [] = (let t : ltb (b + 128) 128 ≡ false = grind (arith, nat_tests) in let v : b + 128 - 127
    ≡ w = omega (arith, is.0) in rw (t, v, shift_is s k) refl) in
    rw (i, e) (ascii_single (b + 128) rest none ∙ ap (λ (r : List ℕ). r ++ ascii rest) two)

-- Greedy units are the form from the left of what they mean.
units_are : (us : List (Piece (List Item))) → AllByRecursion (λ u. IsAsciiUnit u.words u.what) us → IsGreedy us
    → spelled us ≡ ascii (gathered us)
units_are [] each greedy = refl
units_are (u ∷ us) each greedy =
    ap (λ (r : List ℕ). u.words ++ r) (units_are us each.1 (greedy_rest u us greedy))
    ∙ sym (unit_first u.words u.what (gathered us) each.0 (apart_from u us each.1 greedy))

-- The ASCII form of a message is the form from its left.
pub ascii_only : (m : List Item) (words : List ℕ) → IsAscii m words → words ≡ ascii m
ascii_only m words h = h.whole ∙ units_are h.units h.each h.greedy ∙ ap ascii (sym h.items)
