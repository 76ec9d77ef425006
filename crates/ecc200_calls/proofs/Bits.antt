-- Modules after the bits of codewords are written.
use Rattle.ecc200_calls.proofs.Names.{nat_tests, eqb_tells, ◌≡◌, ◌≢◌, ◌⊎◌, inl, inr, ℕ, zero, suc, ◌+◌, ◌-◌, ◌*◌, ◌/◌}
use Rattle.ecc200_calls.proofs.Names.{◌%◌, ◌<◌, ◌≤◌, Bool, true, false, not, ◌&&◌, ◌||◌, cond, nat_eq, List, [], ◌∷◌}
use Rattle.ecc200_calls.proofs.Names.{set, length, get_or, refl, sym, ◌∙◌, ap, arith, subst, get_or-set_other}
use Rattle.ecc200_calls.proofs.Names.{get_or-set_same, Some, None, list_all, and_parts, eqb-true, true≢false}
use Rattle.ecc200_calls.proofs.Names.{length-set, recursion_from_All, AllPass-from_list_all, mul-le-mul_right, At}
use Rattle.ecc200_calls.proofs.Names.{EachCellOnce, IsPlace, places_in_order, ArePlaces, all_are_places, one_bit}
use Rattle.ecc200_calls.proofs.Names.{none_fixed, place_at, length-places_in_order, once_at_sides, SizeEntry, IsSize}
use Rattle.ecc200_calls.proofs.Names.{area, mapping_rows, mapping_columns, at_found, off_edge, placed_size}
use Rattle.ecc200_calls.proofs.Names.{region_below, row_inside, size_facts, symbol_line-form, symbol_line-one, PlaceOut}
use Rattle.ecc200_calls.proofs.Names.{ArePlacesOf, nothing, bit_place, border_place, fixed_place, structure_by}
use Rattle.ecc200_calls.proofs.Names.{structure_place, with_bits}
use Rattle.std.proofs.lemmas.Nat.{div-mul-add, mod-mul-add}
use Rattle.dm_place.specs.declared.cells.Place.{Place}
use Rattle.dm_place.specs.declared.shape.Cell.{Cell}
use Rattle.dm_place.specs.Border.{has_fixed_square, is_fixed, fixed_is_dark, symbol_line}
use Rattle.dm_layout.specs.symbols.Sizes.{size_table}
use Rattle.dm_layout.specs.symbols.Border.{is_border, border_is_dark}
use Rattle.ecc200_calls.specs.Places as places

-- These are the places of all bits of a symbol of this size.
abbrev all_bits : SizeEntry → List Place
all_bits size = places_in_order (mapping_rows size) (mapping_columns size)

-- Each item of the list is a place of the mapping matrix of this size.
abbrev pub ArePlacesIn : SizeEntry → List Place → Type 0
ArePlacesIn size ps = ArePlaces (mapping_rows size) (mapping_columns size) ps

-- Each cell of the mapping matrix holds one bit, or is one of the fixed square.
pub once : (size : SizeEntry) → IsSize size → EachCellOnce (mapping_rows size) (mapping_columns size)
once size entry = once_at_sides (mapping_rows size) (mapping_columns size) _ (placed_size size entry)

-- A column of the mapping matrix lies in the symbol.
pub column_inside : (size : SizeEntry) (c : ℕ) → IsSize size → c < mapping_columns size →
    symbol_line size.region_columns c < size.columns
column_inside size c entry l =
    let facts = size_facts size entry in
    let d : ℕ = size.region_columns in
    let below = region_below d c size.regions_across facts.least_columns l in
    let form = symbol_line-form d c facts.least_columns in
    let room : (c / d + 1) * (d + 2) ≤ size.regions_across * (d + 2) =
    mul-le-mul_right (d + 2) (omega (arith, below)) in
    let some : 0 < d = omega (arith, facts.least_columns) in
    let rest : c % d < d = omega (arith, some) in
    let next : (c / d + 1) * (d + 2) ≡ c / d * (d + 2) + (d + 2) = omega arith in
    omega (arith, form, room, rest, next, facts.columns)

-- A cell of the mapping matrix has this place among the modules.
abbrev pub module_of_cell : SizeEntry → ℕ → ℕ → ℕ
module_of_cell size r c = symbol_line size.region_rows r * size.columns + symbol_line size.region_columns c

-- Modules with different rows or columns stand at different places.
pub one_module : (columns r c u v : ℕ) → c < columns → v < columns → r * columns + c ≡ u * columns + v →
    (r ≡ u) × (c ≡ v)
one_module columns r c u v lc lv e = (
  cc (div-mul-add r columns c lc, div-mul-add u columns v lv),
  cc (mod-mul-add r columns c lc, mod-mul-add u columns v lv),
)

-- Different cells of the mapping matrix stand at different places.
pub one_cell : (size : SizeEntry) (r c u v : ℕ) → IsSize size → c < mapping_columns size → v < mapping_columns size →
    module_of_cell size r c ≡ module_of_cell size u v → (r ≡ u) × (c ≡ v)
one_cell size r c u v entry lc lv e =
    let d : ℕ = size.region_rows in
    let k : ℕ = size.region_columns in
    let facts = size_facts size entry in
    let both =
    one_module size.columns (symbol_line d r) (symbol_line k c) (symbol_line d u) (symbol_line k v)
    (column_inside size c entry lc) (column_inside size v entry lv) e in
    (symbol_line-one d r u facts.least_rows both.0, symbol_line-one k c v facts.least_columns both.1)

-- Each cell of the mapping matrix has its place among the modules of the symbol.
pub cell_inside : (size : SizeEntry) (r c : ℕ) → IsSize size → r < mapping_rows size → c < mapping_columns size →
    module_of_cell size r c < area size
cell_inside size r c entry lr lc =
    let down = row_inside size r entry lr in
    let across = column_inside size c entry lc in
    let room : (symbol_line size.region_rows r + 1) * size.columns ≤ size.rows * size.columns =
    mul-le-mul_right size.columns (omega (arith, down)) in
    omega (arith, room, across)

-- A module at which no bit lies stays as it was.
bits_kept : (size : SizeEntry) (ps : List Place) (xs : List PlaceOut) (i : ℕ) → ArePlacesIn size ps
    → ((w b r c : ℕ) → IsPlace (mapping_rows size) (mapping_columns size) w b (At r c) → i ≢ module_of_cell size r c) →
    get_or (with_bits size ps xs) i nothing ≡ get_or xs i nothing
bits_kept size [] xs i are h = refl
bits_kept size (p ∷ rest) xs i are h =
    bits_kept size rest (set xs (module_of_cell size p.row p.column) (bit_place p.word p.bit)) i are.1 h
    ∙ get_or-set_other xs (module_of_cell size p.row p.column) i (bit_place p.word p.bit) nothing
    (h p.word p.bit p.row p.column are.0)

-- The module of a bit has it once it is right, since a cell holds one bit.
bits_stay : (size : SizeEntry) (ps : List Place) (xs : List PlaceOut) (w b r c : ℕ) → IsSize size →
    ArePlacesIn size ps → IsPlace (mapping_rows size) (mapping_columns size) w b (At r c)
    → area size ≤ length xs → get_or xs (module_of_cell size r c) nothing ≡ bit_place w b →
    get_or (with_bits size ps xs) (module_of_cell size r c) nothing ≡ bit_place w b
bits_stay size [] xs w b r c entry are place room e = e
bits_stay size (p ∷ rest) xs w b r c entry are place room e =
    bits_stay size rest next w b r c entry are.1 place
    (omega (arith, room, length-set xs at (bit_place p.word p.bit)))
    (by_module (eqb_tells here at))
  where
    at : ℕ
    at = module_of_cell size p.row p.column

    here : ℕ
    here = module_of_cell size r c

    next : List PlaceOut
    next = set xs at (bit_place p.word p.bit)

    by_module : ((nat_eq here at ≡ true) × (here ≡ at)) ⊎ ((nat_eq here at ≡ false) × (here ≢ at)) →
        get_or next here nothing ≡ bit_place w b
    by_module (inr y) = get_or-set_other xs at here (bit_place p.word p.bit) nothing y.1 ∙ e
    by_module (inl x) =
        let law = once size entry in
        let mine = law.inside w b (At r c) place in
        let its = law.inside p.word p.bit (At p.row p.column) are.0 in
        let same = one_cell size r c p.row p.column entry mine.1 its.1 x.1 in
        let one =
        one_bit (mapping_rows size) (mapping_columns size) p.row p.column w b p.word p.bit law
        (rw (same.0, same.1) at place) are.0 in
        rw (x.1, ← one.0, ← one.1) (get_or-set_same xs at (bit_place p.word p.bit) nothing
        (omega (arith, cell_inside size p.row p.column entry its.0 its.1, room)))

-- The module of a bit becomes right when its place is written.
bits_come : (size : SizeEntry) (ps : List Place) (xs : List PlaceOut) (i : ℕ) (d : Place) → IsSize size →
    ArePlacesIn size ps → area size ≤ length xs → i < length ps
    → get_or (with_bits size ps xs) (module_of_cell size (get_or ps i d).row (get_or ps i d).column) nothing ≡
    bit_place (get_or ps i d).word (get_or ps i d).bit
bits_come size [] xs i d entry are room l = absurd (omega arith)
bits_come size (p ∷ rest) xs zero d entry are room l =
    let inside = (once size entry).inside p.word p.bit (At p.row p.column) are.0 in
    bits_stay size rest (set xs (module_of_cell size p.row p.column) (bit_place p.word p.bit)) p.word p.bit p.row
    p.column entry are.1 are.0
    (omega (arith, room, length-set xs (module_of_cell size p.row p.column) (bit_place p.word p.bit)))
    (get_or-set_same xs (module_of_cell size p.row p.column) (bit_place p.word p.bit) nothing
    (omega (arith, cell_inside size p.row p.column entry inside.0 inside.1, room)))
bits_come size (p ∷ rest) xs (suc i) d entry are room l =
    bits_come size rest (set xs (module_of_cell size p.row p.column) (bit_place p.word p.bit)) i d entry are.1
    (omega (arith, room, length-set xs (module_of_cell size p.row p.column) (bit_place p.word p.bit))) (omega arith)

-- Each bit of each codeword is where it lies.
bits_are_there : (size : SizeEntry) (xs : List PlaceOut) (word bit : ℕ) (cell : Cell) → IsSize size →
    area size ≤ length xs → IsPlace (mapping_rows size) (mapping_columns size) word bit cell
    → get_or (with_bits size (all_bits size) xs) (module_of_cell size cell.row cell.column) nothing ≡
    bit_place word bit
bits_are_there size xs word bit cell entry room p =
    let n : ℕ = mapping_rows size in
    let m : ℕ = mapping_columns size in
    let d : Place = record { word = 0; bit = 0; row = 0; column = 0 } in
    let i : ℕ = 8 * word + (bit - 1) in
    let found =
    place_at n m word bit d p.word_in p.from_one p.to_eight
    ∙ ap (λ (x : Cell). record { word = word; bit = bit; row = x.row; column = x.column }) p.there in
    let inside : i < length (places_in_order n m) =
    omega (arith, length-places_in_order n m, p.word_in, p.from_one, p.to_eight) in
    subst (λ (q : Place). get_or (with_bits size (places_in_order n m) xs) (module_of_cell size q.row q.column) nothing
    ≡ bit_place q.word q.bit) found
    (bits_come size (places_in_order n m) xs i d entry (all_are_places n m) room inside)

-- The module of a border is right before the bits are written, and stays so.
border_is_there : (size : SizeEntry) (xs : List PlaceOut) (r c : ℕ) → IsSize size → r < size.rows → c < size.columns →
    is_border size r c ≡ true
    → places.place_at size xs r c ≡ structure_place size r c →
    places.place_at size (with_bits size (all_bits size) xs) r c ≡
    border_place (border_is_dark size r c)
border_is_there size xs r c entry lr lc h e =
    bits_kept size (all_bits size) xs (r * size.columns + c)
    (all_are_places (mapping_rows size) (mapping_columns size))
    (λ w b u v p same.
    let inside = (once size entry).inside w b (At u v) p in
    let facts = size_facts size entry in
    let d : ℕ = size.region_rows in
    let k : ℕ = size.region_columns in
    let one =
    one_module size.columns r c (symbol_line d u) (symbol_line k v) lc (column_inside size v entry inside.1) same in
    true≢false (rw (one.0, one.1, off_edge size u v facts.least_rows facts.least_columns) at (sym h)))
    ∙ e ∙ ap (λ x. structure_by (cond x (Some (border_is_dark size r c)) None) r c) h

-- Two lines of the mapping matrix are the same exactly where they are the same in the symbol.
same_lines : (d r c : ℕ) → 6 ≤ d → nat_eq (symbol_line d r) (symbol_line d c) ≡ nat_eq r c
same_lines d r c least = grind (arith, nat_tests, symbol_line-one)

-- A size whose mapping matrix has a fixed square has regions with as many rows as columns.
abbrev is_square_if_fixed : SizeEntry → Bool
is_square_if_fixed size =
    not (has_fixed_square (mapping_rows size) (mapping_columns size)) || nat_eq size.region_rows size.region_columns

-- Each size is such: this is computed.
all_square_if_fixed : list_all is_square_if_fixed size_table ≡ true
unfolding size_table
all_square_if_fixed = refl

square_if_fixed : (size : SizeEntry) → IsSize size
    → has_fixed_square (mapping_rows size) (mapping_columns size) ≡ true → size.region_rows ≡ size.region_columns
square_if_fixed size entry h =
    let told =
    at_found (λ s. is_square_if_fixed s ≡ true) (λ s. nat_eq s.rows size.rows && nat_eq s.columns size.columns)
    size_table size
    (recursion_from_All (λ s. is_square_if_fixed s ≡ true) size_table
    (AllPass-from_list_all is_square_if_fixed size_table all_square_if_fixed)) entry in
    eqb-true _ _ (sym (ap (λ b. not b || nat_eq size.region_rows size.region_columns) h) ∙ told)

-- The module of the fixed square is right before the bits are written, and stays so.
fixed_is_there : (size : SizeEntry) (xs : List PlaceOut) (r c : ℕ) → IsSize size → r < mapping_rows size
    → c < mapping_columns size → is_fixed (mapping_rows size) (mapping_columns size) r c ≡ true
    → places.mapped_place size xs r c ≡ structure_place size (symbol_line size.region_rows r)
    (symbol_line size.region_columns c)
    → places.mapped_place size (with_bits size (all_bits size) xs) r c ≡ fixed_place (fixed_is_dark r c)
fixed_is_there size xs r c entry lr lc h e =
    let n : ℕ = mapping_rows size in
    let m : ℕ = mapping_columns size in
    let d : ℕ = size.region_rows in
    let k : ℕ = size.region_columns in
    let facts = size_facts size entry in
    let law = once size entry in
    let has = and_parts (has_fixed_square n m) _ (and_parts _ _ h).0 in
    let alike = square_if_fixed size entry has.0 in
    bits_kept size (all_bits size) xs (module_of_cell size r c)
    (all_are_places n m) (λ w b u v p same.
    let inside = law.inside w b (At u v) p in
    let one = one_cell size r c u v entry lc inside.1 same in
    none_fixed n m r c w b law h (rw (← one.0, ← one.1) at p))
    ∙ e ∙ rw (off_edge size r c facts.least_rows facts.least_columns, ← alike, same_lines d r c facts.least_rows) refl

-- Writing the structure, and the bits over that, gives the modules of a symbol.
pub places_are : (size : SizeEntry) (ys zs : List PlaceOut) → IsSize size → area size ≤ length ys
    → ((r c : ℕ) → r < size.rows → c < size.columns → places.place_at size ys r c ≡ structure_place size r c)
    → zs ≡ with_bits size (places_in_order (mapping_rows size) (mapping_columns size)) ys → ArePlacesOf size zs
places_are size ys zs entry room put bits = subst (ArePlacesOf size) (sym bits) (record {
  bits = λ w b cell p. bits_are_there size ys w b cell entry room p;
  border = λ r c lr lc h. border_is_there size ys r c entry lr lc h (put r c lr lc);
  fixed =
      λ r c lr lc h. fixed_is_there size ys r c entry lr lc h
      (put _ _ (row_inside size r entry lr) (column_inside size c entry lc));
})

-- What stands behind the modules stays.
pub behind_stays : (size : SizeEntry) (ys zs : List PlaceOut) (i : ℕ) → IsSize size → area size ≤ i
    → zs ≡ with_bits size (places_in_order (mapping_rows size) (mapping_columns size)) ys
    → get_or zs i nothing ≡ get_or ys i nothing
behind_stays size ys zs i entry l bits =
    ap (λ xs. get_or xs i nothing) bits
    ∙ bits_kept size (all_bits size) ys i (all_are_places (mapping_rows size) (mapping_columns size))
    (λ w b u v p same.
    let inside = (once size entry).inside w b (At u v) p in
    omega (arith, cell_inside size u v entry inside.0 inside.1, same, l))
