-- A mapping matrix holds one list of codewords.
use Rattle.std.proofs.lemmas.Bool.Decides.{nat_tests}
use Rattle.std.proofs.Common.{◌≡◌, ℕ, ◌-◌, ◌/◌, ◌%◌, ◌^◌, ◌<◌, ◌≤◌, Bool, false, nat_eq, List, map, length}
use Rattle.std.proofs.Common.{get_or, refl, sym, ◌∙◌, ap, arith}
use Rattle.std.specs.List.{All}
use Rattle.std.proofs.lemmas.Grind.{same_number_lists}
use Rattle.std.proofs.lemmas.List.{length-map, get_or-map}
use Rattle.std.proofs.lemmas.List.Elements.{All-map, All-from_get_or, All-get_or}
use Rattle.dm_place.specs.declared.shape.Cell.{Cell}
use Rattle.dm_place.specs.declared.shape.Shape.{Shape}
use Rattle.dm_place.specs.declared.shape.Shape.TheVariants.{Corner1}
use Rattle.dm_place.specs.Placement.{At, IsPlace, place, cells_of, shapes}
use Rattle.dm_place.specs.Holding.{bit_of, word_at, HoldsBits, EachMatrixHolds, HeldWordsAreOne}
use Rattle.dm_place.proofs.Bits.{bits_of_byte, same_byte}
use Rattle.dm_place.proofs.OnePlace.{eight}

-- The codewords that are read at the cells of all shapes.
abbrev pub words_of : (ℕ → ℕ → Bool) → ℕ → ℕ → List ℕ
words_of look rows columns = map (λ sh. word_at look (cells_of rows columns sh)) (shapes rows columns)

-- They are as many as the shapes.
pub length-words_of : (look : ℕ → ℕ → Bool) (rows columns : ℕ) →
    length (words_of look rows columns) ≡ length (shapes rows columns)
length-words_of look rows columns = length-map (shapes rows columns) (λ sh. word_at look (cells_of rows columns sh))

-- The codeword that is read at the cells of a shape has the bits that are seen there.
pub bit_in : (look : ℕ → ℕ → Bool) (rows columns : ℕ) (sh : Shape) (bit : ℕ) → 1 ≤ bit → bit ≤ 8 →
    nat_eq (word_at look (cells_of rows columns sh) / 2 ^ (8 - bit) % 2) 1 ≡
    look (get_or (cells_of rows columns sh) (bit - 1) (At 0 0)).row
    (get_or (cells_of rows columns sh) (bit - 1) (At 0 0)).column
bit_in look rows columns sh bit lo hi =
    let k : bit - 1 < length (cells_of rows columns sh) = omega (arith, eight rows columns sh) in
    by_shape sh ∙ get_or-map (λ (x : Cell). look x.row x.column) (cells_of rows columns sh) (bit - 1) (At 0 0) false k
  where
    by_shape : (sh : Shape) → nat_eq (word_at look (cells_of rows columns sh) / 2 ^ (8 - bit) % 2) 1 ≡
        get_or (map (λ (x : Cell). look x.row x.column) (cells_of rows columns sh)) (bit - 1) false
    by_shape x = grind (arith, nat_tests, bits_of_byte)

-- A matrix holds the codewords that are read at the cells of all shapes.
pub holds_words_of : (look : ℕ → ℕ → Bool) (rows columns : ℕ) → HoldsBits rows columns look (words_of look rows columns)
unfolding place
holds_words_of look rows columns word bit cell p =
    let f : Shape → ℕ = λ (sh : Shape). word_at look (cells_of rows columns sh) in
    sym (ap (λ (x : ℕ). nat_eq (x / 2 ^ (8 - bit) % 2) 1) (get_or-map f (shapes rows columns) word Corner1 0 p.word_in)
    ∙ bit_in look rows columns (get_or (shapes rows columns) word Corner1) bit p.from_one p.to_eight
    ∙ ap (λ (x : Cell). look x.row x.column) p.there)

-- The codeword of a shape is a byte.
word_is_byte : (look : ℕ → ℕ → Bool) (rows columns : ℕ) (shape : Shape) →
    word_at look (cells_of rows columns shape) < 256
word_is_byte look rows columns x = grind (arith, nat_tests)

-- The codewords that are read are bytes.
pub words_are_bytes : (look : ℕ → ℕ → Bool) (rows columns : ℕ) → All (λ w. w < 256) (words_of look rows columns)
words_are_bytes look rows columns =
    All-map (λ w. w < 256) (λ shape. word_at look (cells_of rows columns shape)) (shapes rows columns)
    (All-from_get_or (λ shape. word_at look (cells_of rows columns shape) < 256) (shapes rows columns) Corner1
    (λ i hi. word_is_byte look rows columns _))

-- Each matrix holds some codewords.
pub some_list : EachMatrixHolds
some_list rows columns look = (
  words_of look rows columns,
  record {
    count = length-words_of look rows columns;
    bytes =
        words_are_bytes look rows columns;
  },
  holds_words_of look rows columns,
)

-- A matrix holds only one list of codewords.
pub one_list : HeldWordsAreOne
one_list rows columns look u v hu hv bu bv = same_number_lists u v (hu.count ∙ sym hv.count) same_word
  where
    same_word : (i : ℕ) → i < length u → get_or u i 0 ≡ get_or v i 0
    same_word i l =
        let k : i < length (shapes rows columns) = omega (arith, l, hu.count) in
        let m : i < length v = omega (arith, l, hu.count, hv.count) in
        let at : (bit : ℕ) → 1 ≤ bit → bit ≤ 8 → bit_of u i bit ≡ bit_of v i bit =
        λ (bit : ℕ) lo hi.
        let p : IsPlace rows columns i bit (place rows columns i bit) =
        record { word_in = k; from_one = lo; to_eight = hi; there = refl } in
        sym (bu i bit (place rows columns i bit) p) ∙ bv i bit (place rows columns i bit) p in
        same_byte (get_or u i 0) (get_or v i 0) (All-get_or (λ (w : ℕ). w < 256) u i 0 l hu.bytes)
        (All-get_or (λ (w : ℕ). w < 256) v i 0 m hv.bytes)
        (at 1 (omega arith) (omega arith)) (at 2 (omega arith) (omega arith)) (at 3 (omega arith) (omega arith))
        (at 4 (omega arith) (omega arith))
        (at 5 (omega arith) (omega arith)) (at 6 (omega arith) (omega arith)) (at 7 (omega arith) (omega arith))
        (at 8 (omega arith) (omega arith))
