-- Each cell holds one bit: this follows from the test of the sweep, by which the cells of all places are new and fill
-- the matrix.
use Rattle.std.proofs.lemmas.Bool.Decides.{nat_tests}
use Rattle.std.proofs.Common.{◌≡◌, ℕ, ◌+◌, ◌-◌, ◌*◌, ◌/◌, ◌%◌, ◌<◌, Bool, true, false, List, [], ◌∷◌, refl, length}
use Rattle.std.proofs.Common.{get_or, sym, ◌∙◌, ap, subst, arith, take, flat_map, length-append}
use Rattle.std.proofs.Math.ListN.{length-take}
use Rattle.std.specs.Bool.{MatchBool}
use Rattle.std.proofs.lemmas.Bool.{true≢false}
use Rattle.std.proofs.lemmas.Nat.{div-mul-add, mod-mul-add}
use Rattle.std.proofs.lemmas.List.Concat.{get_or-flat_map}
use Rattle.dm_place.specs.declared.shape.Cell.{Cell}
use Rattle.dm_place.specs.declared.shape.Shape.{Shape}
use Rattle.dm_place.specs.declared.shape.Shape.TheVariants.{Corner1}
use Rattle.dm_place.specs.Border.{is_fixed}
use Rattle.dm_place.specs.Placement.{At, shapes, cells_of, place, IsPlace, NoPlace, OnePlace, EachCellOnce}
use Rattle.dm_place.proofs.SweepTest.{cells_of_all, is_free, number_of}
use Rattle.dm_place.proofs.SweptCells.{FillsAll, IsAmong, IsInside, filled_with, free_first, new_at, new_apart}
use Rattle.dm_place.proofs.SweptCells.{filled_at, among, fixed_free}

-- A shape has eight cells.
pub eight : (rows columns : ℕ) (s : Shape) → length (cells_of rows columns s) ≡ 8
eight rows columns x = grind (arith, nat_tests)

-- Shapes have eight cells each.
flat_length : (rows columns : ℕ) (xs : List Shape) → length (flat_map (cells_of rows columns) xs) ≡ 8 * length xs
flat_length rows columns [] = refl
flat_length rows columns (x ∷ xs) =
    let a = length-append (cells_of rows columns x) (flat_map (cells_of rows columns) xs) in
    let b = eight rows columns x in
    let c = flat_length rows columns xs in
    omega (arith, a, b, c)

-- The matrix has eight times as many places as shapes.
pub length-cells : (rows columns : ℕ) → length (cells_of_all rows columns (shapes rows columns)) ≡
    8 * length (shapes rows columns)
length-cells rows columns = flat_length rows columns (shapes rows columns)

-- Place 8 * w + b, b being below 8, lies in cell b of the shape of codeword w.
cells-at : (rows columns w b : ℕ) → w < length (shapes rows columns) → b < 8 →
    get_or (cells_of_all rows columns (shapes rows columns)) (8 * w + b) (At 0 0) ≡
    get_or (cells_of rows columns (get_or (shapes rows columns) w Corner1)) b (At 0 0)
cells-at rows columns w b lw lb =
    let a = flat_length rows columns (take w (shapes rows columns)) in
    let t = length-take w (shapes rows columns) in
    let e : length (flat_map (cells_of rows columns) (take w (shapes rows columns))) ≡ 8 * w = omega (arith, a, t) in
    let k : b < length (cells_of rows columns (get_or (shapes rows columns) w Corner1)) =
    omega (arith, eight rows columns (get_or (shapes rows columns) w Corner1)) in
    let g = get_or-flat_map (cells_of rows columns) (shapes rows columns) w b Corner1 (At 0 0) lw k in
    rw e at g

-- A cell is given by its row and its column.
same_cell : (x : Cell) (r c : ℕ) → x.row ≡ r → x.column ≡ c → x ≡ At r c
same_cell x r c e f = ap (λ (j : ℕ). At j x.column) e ∙ ap (λ (j : ℕ). At r j) f

-- Facts about a mapping matrix, whose places are new cells that fill it.
module _ (rows columns : ℕ) (fills : FillsAll rows columns 0 (shapes rows columns)) where
  -- The cells of all bits, and the number that has the bits of all of them.
  abbrev cells : List Cell
  cells = cells_of_all rows columns (shapes rows columns)

  abbrev whole : ℕ
  whole = filled_with rows columns 0 cells

  -- A cell is filled in the end exactly if it doesn't belong to the fixed square.
  at_cell : (r c : ℕ) → r < rows → c < columns → is_free whole (r * columns + c) ≡ is_fixed rows columns r c
  at_cell r c lr lc = fixed_free rows columns whole r c lr lc fills.all

  -- A place is one of the cells.
  is_listed : (w b : ℕ) (cell : Cell) → IsPlace rows columns w b cell →
      (8 * w + (b - 1) < length cells) × (get_or cells (8 * w + (b - 1)) (At 0 0) ≡ cell)
  unfolding place
  is_listed w b cell h =
      let lb : b - 1 < 8 = omega arith in
      (omega (arith, length-cells rows columns), cells-at rows columns w (b - 1) h.word_in lb ∙ h.there)

  -- Each place lies in the matrix.
  inside_matrix : (w b : ℕ) (cell : Cell) → IsPlace rows columns w b cell → (cell.row < rows) × (cell.column < columns)
  inside_matrix w b cell h =
      let k = is_listed w b cell h in
      let a =
      subst (IsInside rows columns) k.1 (new_at rows columns 0 cells (8 * w + (b - 1)) (At 0 0) fills.new k.0).0 in
      (a.row, a.column)

  -- A place's cell is filled in the end.
  is_taken : (r c w b : ℕ) → IsPlace rows columns w b (At r c) → is_free whole (r * columns + c) ≡ false
  is_taken r c w b h =
      let k = is_listed w b (At r c) h in
      cc (k.1, filled_at rows columns 0 cells (8 * w + (b - 1)) (At 0 0) k.0)

  -- The cell with this number lies at this row and this column.
  cell_of : (r c i : ℕ) → c < columns → i < length cells →
      number_of rows columns (get_or cells i (At 0 0)) ≡ r * columns + c → get_or cells i (At 0 0) ≡ At r c
  cell_of r c i lc li g =
      let x = get_or cells i (At 0 0) in
      let a = (new_at rows columns 0 cells i (At 0 0) fills.new li).0 in
      let er : x.row ≡ r =
      cc (div-mul-add x.row columns x.column a.column, g, div-mul-add r columns c lc) in
      let ec : x.column ≡ c =
      cc (mod-mul-add x.row columns x.column a.column, g, mod-mul-add r columns c lc) in
      same_cell x r c er ec

  one_place : (r c : ℕ) → r < rows → c < columns → IsAmong rows columns (r * columns + c) cells (At 0 0) →
      OnePlace rows columns (At r c)
  unfolding place
  one_place r c lr lc (i, li, e) =
      let lw : i / 8 < length (shapes rows columns) = omega (arith, length-cells rows columns) in
      let lb : i % 8 < 8 = omega arith in
      let s : 8 * (i / 8) + i % 8 ≡ i = omega arith in
      let sb : i % 8 + 1 - 1 ≡ i % 8 = omega arith in
      let here =
      sym (cells-at rows columns (i / 8) (i % 8) lw lb) ∙ ap (λ (j : ℕ). get_or cells j (At 0 0)) s
      ∙ cell_of r c i lc li e in (
        i / 8,
        i % 8 + 1,
        record {
          word_in = lw;
          from_one = omega arith;
          to_eight = omega arith;
          there =
              rw (sb, here);
        },
        λ w b h.
            let k = is_listed w b (At r c) h in
            let g =
            new_apart rows columns 0 cells (8 * w + (b - 1)) i (At 0 0) fills.new k.0 li
            (ap (number_of rows columns) k.1 ∙ sym e) in
            let lo = h.from_one in
            let hi = h.to_eight in
            (omega (arith, g, lo, hi), omega (arith, g, lo, hi)),
      )

  at_any : (r c : ℕ) → r < rows → c < columns → MatchBool (is_fixed rows columns r c) (NoPlace rows columns (At r c))
      (OnePlace rows columns (At r c))
  at_any r c lr lc = by_test (is_fixed rows columns r c) (at_cell r c lr lc)
    where
      by_test : (fixed : Bool) → is_free whole (r * columns + c) ≡ fixed →
          MatchBool fixed (NoPlace rows columns (At r c)) (OnePlace rows columns (At r c))
      by_test true e = λ w b h. true≢false (sym e ∙ is_taken r c w b h)
      by_test false e =
          one_place r c lr lc (among rows columns 0 (r * columns + c) cells (At 0 0) (free_first (r * columns + c)) e)

  by_filling : EachCellOnce rows columns
  by_filling = record { once = at_any; inside = inside_matrix }

-- Where the computed test of the sweep passes, each cell outside the fixed square holds exactly one bit.
pub each_cell_once : (rows columns : ℕ) → FillsAll rows columns 0 (shapes rows columns) → EachCellOnce rows columns
each_cell_once rows columns fills = by_filling rows columns fills
