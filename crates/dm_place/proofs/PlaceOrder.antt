-- The list of all places, by codeword and then by bit.
use Rattle.std.proofs.lemmas.Bool.Decides.{nat_tests}
use Rattle.std.proofs.Common.{◌≡◌, ℕ, zero, suc, ◌+◌, ◌-◌, ◌*◌, ◌/◌, ◌%◌, ◌<◌, ◌≤◌, List, [], ◌∷◌, ◌++◌, length, get_or}
use Rattle.std.proofs.Common.{refl, sym, ◌∙◌, ap, arith, length-append, add-zero, Bool, true, false, Some}
use Rattle.std.proofs.lemmas.List.{get_or-append-add, get_or_append_left}
use Rattle.dm_place.specs.declared.shape.Cell.{Cell}
use Rattle.dm_place.specs.declared.cells.Place.{Place}
use Rattle.dm_place.specs.declared.shape.Shape.{Shape}
use Rattle.dm_place.specs.declared.shape.Shape.TheVariants.{Corner1}
use Rattle.dm_place.specs.Placement.{At, cells_of, bits_from, places_from, shapes, place, places_in_order, IsPlace}
use Rattle.dm_place.specs.Placement.{NoPlace, OnePlace, EachCellOnce, IsPlaceList}
use Rattle.dm_place.specs.Border.{is_fixed}
use Rattle.std.proofs.lemmas.Option.{slice_get-get_or}
use Rattle.std.specs.Bool.{MatchBool}
use Rattle.std.proofs.lemmas.Bool.{MatchBool-at_true, MatchBool-at_false}
use Rattle.dm_place.proofs.OnePlace.{eight}

-- A place is given by its codeword, its bit and its cell.
abbrev pub lies_in : ℕ → ℕ → Cell → Place
lies_in w b x = record { word = w; bit = b; row = x.row; column = x.column }

-- The places of a codeword's bits are listed by bit.
bits_at : (w k : ℕ) (xs : List Cell) (b : ℕ) (d : Place) → b < length xs →
    get_or (bits_from w k xs) b d ≡ lies_in w (k + b + 1) (get_or xs b (At 0 0))
bits_at w k [] b d l = absurd (omega arith)
bits_at w k (x ∷ xs) zero d l = ap (λ (j : ℕ). lies_in w (j + 1) x) (sym (add-zero k))
bits_at w k (x ∷ xs) (suc b) d l =
    let e : suc k + b ≡ k + suc b = omega arith in
    bits_at w (suc k) xs b d (omega arith) ∙ ap (λ (j : ℕ). lies_in w (j + 1) (get_or xs b (At 0 0))) e

-- A codeword has as many places as it has cells.
length-bits : (w k : ℕ) (xs : List Cell) → length (bits_from w k xs) ≡ length xs
length-bits w k [] = refl
length-bits w k (x ∷ xs) = ap suc (length-bits w (suc k) xs)

-- The places of codewords are eight times as many as their shapes.
pub length-places_from : (rows columns w : ℕ) (ss : List Shape) → length (places_from rows columns w ss) ≡ 8 * length ss
length-places_from rows columns w [] = refl
length-places_from rows columns w (s ∷ ss) =
    let a = length-append (bits_from w 0 (cells_of rows columns s)) (places_from rows columns (suc w) ss) in
    let b = length-bits w 0 (cells_of rows columns s) in
    let e = eight rows columns s in
    let c = length-places_from rows columns (suc w) ss in
    omega (arith, a, b, c, e)

-- Place 8 * j + b in the list, b being below 8, is that of bit b + 1 of the codeword with the j-th shape.
places_from-at : (rows columns w : ℕ) (ss : List Shape) (j b : ℕ) (d : Place) → j < length ss → b < 8 →
    get_or (places_from rows columns w ss) (8 * j + b) d ≡
    lies_in (w + j) (b + 1) (get_or (cells_of rows columns (get_or ss j Corner1)) b (At 0 0))
places_from-at rows columns w [] j b d l lb = absurd (omega arith)
places_from-at rows columns w (s ∷ ss) zero b d l lb =
    let e = eight rows columns s in
    let f = length-bits w 0 (cells_of rows columns s) in
    let z : 8 * 0 + b ≡ b = omega arith in
    let y : 0 + b ≡ b = omega arith in
    ap (λ (i : ℕ). get_or (bits_from w 0 (cells_of rows columns s) ++ places_from rows columns (suc w) ss) i d) z
    ∙ get_or_append_left (bits_from w 0 (cells_of rows columns s)) (places_from rows columns (suc w) ss) d b
    (omega arith)
    ∙ bits_at w 0 (cells_of rows columns s) b d (omega arith)
    ∙ ap (λ (i : ℕ). lies_in w (i + 1) (get_or (cells_of rows columns s) b (At 0 0))) y
    ∙ ap (λ (i : ℕ). lies_in i (b + 1) (get_or (cells_of rows columns s) b (At 0 0))) (sym (add-zero w))
places_from-at rows columns w (s ∷ ss) (suc j) b d l lb =
    let e = eight rows columns s in
    let f = length-bits w 0 (cells_of rows columns s) in
    let z : 8 * suc j + b ≡ length (bits_from w 0 (cells_of rows columns s)) + (8 * j + b) = omega arith in
    let y : suc w + j ≡ w + suc j = omega arith in
    ap (λ (i : ℕ). get_or (bits_from w 0 (cells_of rows columns s) ++ places_from rows columns (suc w) ss) i d) z
    ∙ get_or-append-add (bits_from w 0 (cells_of rows columns s)) (places_from rows columns (suc w) ss) (8 * j + b) d
    ∙ places_from-at rows columns (suc w) ss j b d (omega arith) lb
    ∙ ap (λ (i : ℕ). lies_in i (b + 1) (get_or (cells_of rows columns (get_or ss j Corner1)) b (At 0 0))) y

-- The list of all places has eight of them for each shape.
pub length-places_in_order : (rows columns : ℕ) →
    length (places_in_order rows columns) ≡ 8 * length (shapes rows columns)
unfolding places_in_order
length-places_in_order rows columns = length-places_from rows columns 0 (shapes rows columns)

-- Bit number b of codeword w has its place at number 8 * w + (b - 1) of the list of all places.
pub place_at : (rows columns w bit : ℕ) (d : Place) → w < length (shapes rows columns) → 1 ≤ bit → bit ≤ 8 →
    get_or (places_in_order rows columns) (8 * w + (bit - 1)) d ≡ lies_in w bit (place rows columns w bit)
unfolding places_in_order place
place_at rows columns w bit d l lo hi =
    let e : bit - 1 + 1 ≡ bit = omega arith in
    let z : 0 + w ≡ w = omega arith in
    rw (places_from-at rows columns 0 (shapes rows columns) w (bit - 1) d l (omega arith), z, e)

-- ---- each item of the list is a place

-- Each item of the list is the place of its bit.
abbrev pub ArePlaces : ℕ → ℕ → List Place → Type 0
ArePlaces rows columns [] = Unit {0}
ArePlaces rows columns (p ∷ rest) = IsPlace rows columns p.word p.bit (At p.row p.column) × ArePlaces rows columns rest

-- Each of a list's items is a place if each is at its index.
places_by_index : (rows columns : ℕ) (ps : List Place) →
    ((i : ℕ) (d : Place) → i < length ps → IsPlace rows columns (get_or ps i d).word (get_or ps i d).bit
    (At (get_or ps i d).row (get_or ps i d).column)) → ArePlaces rows columns ps
places_by_index rows columns [] h = tt
places_by_index rows columns (p ∷ ps) h =
    (h 0 p (omega arith), places_by_index rows columns ps (λ i d l. h (suc i) d (omega arith)))

-- Each item of the list of all places is a place.
pub all_are_places : (rows columns : ℕ) → ArePlaces rows columns (places_in_order rows columns)
all_are_places rows columns = places_by_index rows columns (places_in_order rows columns) (λ i d l.
    let c = length-places_in_order rows columns in
    let lw : i / 8 < length (shapes rows columns) = omega (arith, c) in
    let lo : 1 ≤ i % 8 + 1 = omega arith in
    let hi : i % 8 + 1 ≤ 8 = omega arith in
    let e = place_at rows columns (i / 8) (i % 8 + 1) d lw lo hi in
    let k : 8 * (i / 8) + (i % 8 + 1 - 1) ≡ i = omega arith in
    let f : get_or (places_in_order rows columns) i d ≡
    lies_in (i / 8) (i % 8 + 1) (place rows columns (i / 8) (i % 8 + 1)) =
    ap (λ (j : ℕ). get_or (places_in_order rows columns) j d) (sym k) ∙ e in
    rw f (record { word_in = lw; from_one = lo; to_eight = hi; there = refl }))

-- ---- a cell holds one bit

-- A cell holds at most one bit.
pub one_bit : (rows columns : ℕ) (r c w b v e : ℕ) → EachCellOnce rows columns → IsPlace rows columns w b (At r c) →
    IsPlace rows columns v e (At r c) → (v ≡ w) × (e ≡ b)
one_bit rows columns r c w b v e law p q =
    let inside = law.inside w b (At r c) p in
    by_law (is_fixed rows columns r c) (law.once r c inside.0 inside.1)
  where
    by_law : (fixed : Bool) → MatchBool fixed (NoPlace rows columns (At r c)) (OnePlace rows columns (At r c)) →
        (v ≡ w) × (e ≡ b)
    by_law z none = grind (arith, nat_tests)

-- No bit lies in the fixed square.
pub none_fixed : (rows columns : ℕ) (r c w b : ℕ) → EachCellOnce rows columns → is_fixed rows columns r c ≡ true →
    IsPlace rows columns w b (At r c) → ⊥
none_fixed rows columns r c w b law f p =
    let inside = law.inside w b (At r c) p in
    MatchBool-at_true (NoPlace rows columns (At r c)) (OnePlace rows columns (At r c)) f
    (law.once r c inside.0 inside.1) w b p

-- Each cell outside the fixed square holds exactly one bit.
pub some_bit : (rows columns : ℕ) (r c : ℕ) → EachCellOnce rows columns → r < rows → c < columns →
    is_fixed rows columns r c ≡ false → OnePlace rows columns (At r c)
some_bit rows columns r c law lr lc f =
    MatchBool-at_false (NoPlace rows columns (At r c)) (OnePlace rows columns (At r c)) f (law.once r c lr lc)

-- ---- the list of all places

-- The list of all places has them by codeword and then by bit.
pub is_place_list : (rows columns : ℕ) → IsPlaceList rows columns (places_in_order rows columns)
is_place_list rows columns = record {
  count = length-places_in_order rows columns;
  in_order = λ w b cell p.
      let lo = p.from_one in
      let hi = p.to_eight in
      let k : 8 * w + (b - 1) < length (places_in_order rows columns) =
      omega (arith, length-places_in_order rows columns, p.word_in) in
      slice_get-get_or (places_in_order rows columns) (8 * w + (b - 1)) (lies_in w b cell) k
      ∙ ap Some (place_at rows columns w b (lies_in w b cell) p.word_in lo hi ∙ ap (lies_in w b) p.there);
}
