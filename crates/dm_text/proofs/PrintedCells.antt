-- The characters of cells that are written together.
use Rattle.std.proofs.Common.{◌≡◌, ◌∙◌, ◌+◌, ◌-◌, ◌/◌, ◌^◌, ◌<◌, ◌≤◌, ℕ, Bool, false, List, ◌++◌, sym, ap, length}
use Rattle.std.proofs.Common.{length-append, map, get_or, take, bit_and, append_assoc, arith, inl, inr}
use Rattle.std.specs.List.{take-map}
use Rattle.std.proofs.Math.Nat.{div-div-eq-div-mul}
use Rattle.std.proofs.lemmas.Bool.{cases_lt}
use Rattle.std.proofs.lemmas.List.{get_or_append_left, length-map, map-append, take_all}
use Rattle.std.proofs.lemmas.List.FromFn.{fill_by_all, get_or-map-range_with_len, length-map-range_with_len}
use Rattle.std.proofs.lemmas.List.FromFn.{take-map-range_with_len}
use Rattle.std.proofs.Math.Seq.{get_or-append_right, take-append-add}
use Rattle.std.proofs.lemmas.Nat.{pow-add}
use Rattle.dm_symbol.specs.Grid.{is_dark_in}
use Rattle.dm_symbol.proofs.Exported.{cut_cell}
use Rattle.dm_text.specs.Answers.{character_of}
use Rattle.dm_text.specs.inner.OpenRecords.{cells_in}

-- The first cells of a row, and a few that are cut out after them, are the first cells of the row.
joined : (cells column few : ℕ) → few ≤ 16 → cells_in column cells
    ++ cells_in few (bit_and (cells / 2 ^ column) 65535) ≡ cells_in (column + few) cells
joined cells column few le =
    let left = cells_in column cells in
    let part = bit_and (cells / 2 ^ column) 65535 in
    let right = cells_in few part in
    let long_left : length left ≡ column = length-map-range_with_len (is_dark_in cells) 0 column in
    let long_right : length right ≡ few = length-map-range_with_len (is_dark_in part) 0 few in
    fill_by_all (is_dark_in cells) (left ++ right) (column + few) false
    (omega (arith, length-append left right, long_left, long_right)) (λ k l.
    elim (cases_lt k column) [
      | inl lt ↦ get_or_append_left left right false k (omega (arith, lt, long_left))
          ∙ get_or-map-range_with_len (is_dark_in cells) 0 column k k false lt (omega arith)
      | inr ge ↦
          let within : k - column < few = omega arith in
          let there : k ≡ length left + (k - column) = omega (arith, long_left) in
          let back : column + (k - column) ≡ k = omega arith in
          get_or-append_right left right k false (omega (arith, long_left))
          ∙ ap (λ (i : ℕ). get_or right (k - i) false) long_left
          ∙ get_or-map-range_with_len (is_dark_in part) 0 few (k - column) (k - column) false within (omega arith)
          ∙ cut_cell cells column (k - column) (omega arith) ∙ ap (is_dark_in cells) back
    ])

-- The characters of the first cells of a row, and those of a few more, are the characters of all these cells.
pub more_cells : (before : List ℕ) (cells column few : ℕ) → few ≤ 16
    → (before ++ map character_of (cells_in column cells))
    ++ take few (map character_of (cells_in 16 (bit_and (cells / 2 ^ column) 65535)))
    ≡ before ++ map character_of (cells_in (column + few) cells)
more_cells before cells column few le =
    let part = bit_and (cells / 2 ^ column) 65535 in
    let prefix : take few (map character_of (cells_in 16 part)) ≡ map character_of (cells_in few part) =
    take-map character_of few (cells_in 16 part)
    ∙ ap (map character_of) (take-map-range_with_len (is_dark_in part) 0 16 few le) in
    append_assoc before (map character_of (cells_in column cells)) (take few (map character_of (cells_in 16 part)))
    ∙ ap (λ (l : List ℕ). before ++ (map character_of (cells_in column cells) ++ l)) prefix
    ∙ ap (λ (l : List ℕ). before ++ l) (sym (map-append character_of (cells_in column cells) (cells_in few part)))
    ∙ ap (λ (l : List Bool). before ++ map character_of l) (joined cells column few le)

-- Cells have as many characters as there are cells.
pub cells_long : (n cells : ℕ) → length (map character_of (cells_in n cells)) ≡ n
cells_long n cells = length-map (cells_in n cells) character_of ∙ length-map-range_with_len (is_dark_in cells) 0 n

-- A row of cells is the cells of the number that has them as its bits.
pub row_is : (row : List Bool) (cells width : ℕ) → length row ≡ width →
    ((column : ℕ) → column < width → is_dark_in cells column ≡ get_or row column false)
    → cells_in width cells ≡ row
row_is row cells width long each = sym (fill_by_all (is_dark_in cells) row width false long (λ k l. sym (each k l)))

-- The characters of the first cells of a row, and those of sixteen more, are the characters of all these cells.
pub sixteen_more : (before : List ℕ) (cells column : ℕ)
    → (before ++ map character_of (cells_in column cells))
    ++ map character_of (cells_in 16 (bit_and (cells / 2 ^ column) 65535)) ≡ before
    ++ map character_of (cells_in (column + 16) cells)
sixteen_more before cells column =
    let part = map character_of (cells_in 16 (bit_and (cells / 2 ^ column) 65535)) in
    ap (λ (l : List ℕ). (before ++ map character_of (cells_in column cells)) ++ l)
    (sym (take_all 16 part (omega (arith, cells_long 16 (bit_and (cells / 2 ^ column) 65535)))))
    ∙ more_cells before cells column 16 (omega arith)

-- Cells without their first ones, and then without sixteen more, are those without all of these.
pub sixteen_less : (cells column : ℕ) → cells / 2 ^ column / 2 ^ 16 ≡ cells / 2 ^ (column + 16)
sixteen_less cells column =
    div-div-eq-div-mul cells (2 ^ column) (2 ^ 16) ∙ ap (λ (w : ℕ). cells / w) (sym (pow-add 2 column 16))

-- Where the characters of too many cells stand after a text, those of the first cells are cut out with it.
pub first_cells : (before : List ℕ) (cells column width : ℕ) → width ≤ column
    → take (length before + width) (before ++ map character_of (cells_in column cells)) ≡ before
    ++ map character_of (cells_in width cells)
first_cells before cells column width le =
    take-append-add before (map character_of (cells_in column cells)) width
    ∙ ap (λ (l : List ℕ). before ++ l) (take-map character_of width (cells_in column cells)
    ∙ ap (map character_of) (take-map-range_with_len (is_dark_in cells) 0 column width le))
