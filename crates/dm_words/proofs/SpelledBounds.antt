-- How many items codewords spell: at most two for each, and in the wide extent seven more; and some spell so many.
use Rattle.dm_words.proofs.Names.{◌≡◌, ℕ, zero, suc, ◌+◌, ◌*◌, ◌<◌, ◌≤◌, List, [], ◌∷◌, length, refl, sym, ap, arith}
use Rattle.dm_words.proofs.Names.{length-append, AllByRecursion, append-nil, All-from_recursion, Extent, Usual, Wide}
use Rattle.dm_words.proofs.Names.{Item, Byte, Piece, spelled, gathered, AreJoined, digits, macro_text, macro_trailer}
use Rattle.dm_words.proofs.Names.{most_spelled, IsPart, AreParts}
use Rattle.dm_words.specs.Parts.{ascii, nothing}
use Rattle.dm_words.specs.Laws.{SomeSpell}
use Rattle.dm_words.proofs.SpelledContents.{parts_spell, macro_spells}

-- ---- as many

-- So many codewords 130 are so many pairs of digits.
double_zeros : ℕ → List (Piece (List Item))
double_zeros zero = []
double_zeros (suc n) = record { words = 130 ∷ []; what = Byte 48 ∷ Byte 48 ∷ [] } ∷ double_zeros n

-- They are parts wherever they stand.
zeros_joined : (extent : Extent) (place n : ℕ) → AreJoined (IsPart extent) place (double_zeros n) []
unfolding double_zeros
zeros_joined extent place zero = tt
zeros_joined extent place (suc n) = (ascii (digits 130 0 refl refl refl), zeros_joined extent (place + 1) n)

-- They are so many codewords.
zeros_counted : (n : ℕ) → length (spelled (double_zeros n)) ≡ n
unfolding double_zeros
zeros_counted zero = refl
zeros_counted (suc n) = ap suc (zeros_counted n)

-- They are codewords.
zeros_small : (n : ℕ) → AllByRecursion (λ w. w < 256) (spelled (double_zeros n))
unfolding double_zeros
zeros_small zero = tt
zeros_small (suc n) = (omega arith, zeros_small n)

-- They spell two items each.
zeros_long : (n : ℕ) → length (gathered (double_zeros n)) ≡ 2 * n
unfolding double_zeros
zeros_long zero = refl
zeros_long (suc n) = omega (arith, zeros_long n)

-- They are all there is from a place on.
zeros_parts : (extent : Extent) (place n : ℕ)
    → AreParts extent place (spelled (double_zeros n)) (gathered (double_zeros n))
zeros_parts extent place n = record {
  parts = double_zeros n;
  after = [];
  joined = zeros_joined extent place n;
  ended = nothing refl;
  whole = sym (append-nil (spelled (double_zeros n)));
  items_are = refl;
}

-- By pairs of digits two items are spelled for each codeword.
zeros_spell : (extent : Extent) (n : ℕ) → SomeSpell extent n (2 * n)
zeros_spell extent n = record {
  words = spelled (double_zeros n);
  message = gathered (double_zeros n);
  counted = zeros_counted n;
  codewords = All-from_recursion (λ w. w < 256) (spelled (double_zeros n)) (zeros_small n);
  spells = parts_spell extent (spelled (double_zeros n)) (gathered (double_zeros n)) (zeros_parts extent 1 n);
  long = zeros_long n;
}

-- A macro before them spells nine items more.
zeros_behind_macro : (n : ℕ) → SomeSpell Wide (suc n) (2 * suc n + 7)
zeros_behind_macro n =
    let text = gathered (double_zeros n) in
    record {
      words = 236 ∷ spelled (double_zeros n);
      message = macro_text 53 text;
      counted = ap suc (zeros_counted n);
      codewords = All-from_recursion (λ w. w < 256) (236 ∷ spelled (double_zeros n)) (omega arith, zeros_small n);
      spells = macro_spells _ 236 53 (236 ∷ spelled (double_zeros n)) _ _ refl refl refl (zeros_parts Wide 2 n);
      long = omega (arith, length-append text macro_trailer, zeros_long n);
    }

-- For each number of codewords, some spell the most that so many can.
pub some_spell_most : (extent : Extent) (count : ℕ) → SomeSpell extent count (most_spelled extent count)
some_spell_most Usual count = zeros_spell Usual count
some_spell_most Wide zero = zeros_spell Wide zero
some_spell_most Wide (suc n) = zeros_behind_macro n

-- ---- room

-- Where all that is spelled has room, two items for each codeword have.
pub room_of_two : (room : ℕ) (extent : Extent) (count : ℕ) → most_spelled extent count ≤ room → 2 * count ≤ room
room_of_two room extent count h1 = grind arith

-- Where seven items more than two for each codeword have room, all that is spelled has.
pub room_for_spelled : (room : ℕ) (extent : Extent) (count : ℕ) → 2 * count + 7 ≤ room
    → most_spelled extent count ≤ room
room_for_spelled room extent count h1 = grind arith
