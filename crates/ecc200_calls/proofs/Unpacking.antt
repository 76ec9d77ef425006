-- Cells of a row that are unpacked together into modules.
use Rattle.ecc200_calls.proofs.Names.{◌≡◌, ◌∙◌, ℕ, ◌+◌, ◌-◌, ◌*◌, ◌/◌, ◌^◌, ◌<◌, ◌≤◌, min, Bool, false, bit_and, List}
use Rattle.ecc200_calls.proofs.Names.{◌++◌, length, map, take, drop, get_or, sym, ap, arith, inl, inr, cases_lt}
use Rattle.ecc200_calls.proofs.Names.{append_assoc, drop-drop, get_or-map, get_or_append_left, length-drop, length-map}
use Rattle.ecc200_calls.proofs.Names.{length-take-le, take-append-drop, take-take, get_or-take, get_or-drop, map-append}
use Rattle.ecc200_calls.proofs.Names.{take-append_seam, range_with_len, fill_by_all, get_or-map-range_with_len}
use Rattle.ecc200_calls.proofs.Names.{length-map-range_with_len, put_chunk_is, take_more_put_chunk, is_dark_bit}
use Rattle.ecc200_calls.proofs.Names.{cut_cell, module_of, unpacked_cells, unpacked_row}
use Rattle.std.specs.Simd.Lanes.{put_chunk}
use Rattle.std.proofs.lemmas.List.{get_or-append_right, length-append, length-take}
use Rattle.std.proofs.lemmas.Slice.{drop-append-drop}

-- Sixteen modules are unpacked together.
pub sixteen : (stored : List ℕ) (cells : ℕ) → stored ≡ unpacked_cells 16 cells → length stored ≡ 16
sixteen stored cells is = ap length is ∙ length-map-range_with_len (λ c. module_of (is_dark_bit cells c)) 0 16

-- The cells of a row up to a later column are those up to a column, and those behind it.
unpacked_parts : (cells column count : ℕ) →
    unpacked_cells (column + count) cells ≡
    unpacked_cells column cells ++ map (λ k. module_of (is_dark_bit cells (column + k))) (range_with_len 0 count)
unpacked_parts cells column count =
    let front = unpacked_cells column cells in
    let part = map (λ k. module_of (is_dark_bit cells (column + k))) (range_with_len 0 count) in
    let long : length front ≡ column = length-map-range_with_len (λ c. module_of (is_dark_bit cells c)) 0 column in
    let more : length part ≡ count =
    length-map-range_with_len (λ k. module_of (is_dark_bit cells (column + k))) 0 count in
    sym (fill_by_all (λ c. module_of (is_dark_bit cells c)) (front ++ part) (column + count) 0
    (omega (arith, length-append front part, long, more)) (λ k l.
    elim (cases_lt k column) [
      | inl lt ↦
          get_or_append_left front part 0 k (omega (arith, lt, long))
          ∙ get_or-map-range_with_len (λ c. module_of (is_dark_bit cells c)) 0 column k k 0 lt (omega arith)
      | inr ge ↦
          let j = k - column in
          let there : column + j ≡ k = omega (arith, ge) in
          get_or-append_right front part column k 0 long ge
          ∙ get_or-map-range_with_len (λ k. module_of (is_dark_bit cells (column + k))) 0 count j j 0
          (omega (arith, l, there)) (omega arith)
          ∙ ap (λ i. module_of (is_dark_bit cells i)) there
    ]))

-- Sixteen modules that are cut out of a row are those of the row from that column on.
cut_part : (cells column : ℕ) → unpacked_cells 16 (bit_and (cells / 2 ^ column) 65535) ≡
    map (λ k. module_of (is_dark_bit cells (column + k))) (range_with_len 0 16)
cut_part cells column =
    let part = bit_and (cells / 2 ^ column) 65535 in
    fill_by_all (λ k. module_of (is_dark_bit cells (column + k))) (unpacked_cells 16 part) 16 0
    (length-map-range_with_len (λ c. module_of (is_dark_bit part c)) 0 16) (λ k l.
    get_or-map-range_with_len (λ c. module_of (is_dark_bit part c)) 0 16 k k 0 l (omega arith)
    ∙ ap module_of (cut_cell cells column k l))

-- Where the cells before a column are unpacked behind a place, and sixteen more behind them, those before a later
-- column are.
pub written_more : (start column cells : ℕ) (init all stored : List ℕ) → start + column + 16 ≤ length all →
    stored ≡ unpacked_cells 16 (bit_and (cells / 2 ^ column) 65535)
    → take (start + column) all ≡ take start init ++ unpacked_cells column cells
    → take (start + (column + 16)) (put_chunk (start + column) all stored) ≡
    take start init ++ unpacked_cells (column + 16) cells
written_more start column cells init all stored room is before =
    let part = bit_and (cells / 2 ^ column) 65535 in
    let long = sixteen stored part is in
    take_more_put_chunk (start + column) all stored (start + (column + 16)) (omega (arith, long)) (omega (arith, room))
    ∙ rw (before, append_assoc, is, cut_part, unpacked_parts)

-- What lies behind numbers that are stored stays.
pub behind_chunk : (i n : ℕ) (xs ys : List ℕ) → i + length ys ≤ length xs → i + length ys ≤ n →
    drop n (put_chunk i xs ys) ≡ drop n xs
behind_chunk i n xs ys room far =
    ap (drop n) (put_chunk_is i xs ys room
    ∙ ap (λ (zs : List ℕ). take i xs ++ (ys ++ zs)) (drop-drop (length ys) i xs)
    ∙ sym (append_assoc (take i xs) ys (drop (i + length ys) xs)))
    ∙ drop-append-drop (i + length ys) xs (take i xs ++ ys) n far
    (omega (arith, length-append (take i xs) ys, length-take-le i xs (omega (arith, room))))

-- The first of the cells that are unpacked behind a place are as many as are wanted.
pub unpacked_front : (start width column cells : ℕ) (init all : List ℕ) → width ≤ column → start ≤ length init →
    take (start + column) all ≡ take start init ++ unpacked_cells column cells →
    take (start + width) all ≡ take start init ++ unpacked_cells width cells
unpacked_front start width column cells init all far room written =
    let front = take start init in
    let long : length front ≡ start = length-take-le start init room in
    let more = column - width in
    let sum : width + more ≡ column = omega (arith, far) in
    let wide : length (unpacked_cells width cells) ≡ width =
    length-map-range_with_len (λ c. module_of (is_dark_bit cells c)) 0 width in
    let rest = map (λ k. module_of (is_dark_bit cells (width + k))) (range_with_len 0 more) in
    let whole : take (start + column) all ≡ front ++ unpacked_cells width cells ++ rest =
    written ∙ ap (λ (n : ℕ). front ++ unpacked_cells n cells) (sym sum)
    ∙ ap (λ (xs : List ℕ). front ++ xs) (unpacked_parts cells width more)
    ∙ sym (append_assoc front (unpacked_cells width cells) rest) in
    let count : length (front ++ unpacked_cells width cells) ≡ start + width =
    omega (arith, length-append front (unpacked_cells width cells), long, wide) in
    sym (take-take (start + width) (start + column) all (omega (arith, far)))
    ∙ ap (take (start + width)) whole
    ∙ ap (λ (n : ℕ). take n (front ++ unpacked_cells width cells ++ rest)) (sym count)
    ∙ take-append_seam (front ++ unpacked_cells width cells) rest

-- The first cells of a row are unpacked to its modules.
part_is_row : (row : List Bool) (cells width : ℕ) → length row ≡ width
    → ((column : ℕ) → column < width → is_dark_bit cells column ≡ get_or row column false)
    → unpacked_cells width cells ≡ map module_of row
part_is_row row cells width wide same =
    sym (fill_by_all (λ column. module_of (is_dark_bit cells column)) (map module_of row) width 0
    (length-map row module_of ∙ wide) (λ k l.
    get_or-map module_of row k false 0 (omega (arith, wide, l)) ∙ ap module_of (sym (same k l))))

-- A row that is written as two numbers is unpacked to its modules.
pub line_is_row : (row : List Bool) (cells end columns : ℕ) → length row ≡ columns
    → ((column : ℕ) → column < 128 → column < columns → is_dark_bit cells column ≡ get_or row column false)
    → ((column : ℕ) → 128 + column < columns → is_dark_bit end column ≡ get_or row (128 + column) false)
    → unpacked_row columns cells end ≡ map module_of row
line_is_row row cells end columns wide first behind =
    let front : unpacked_cells (min columns 128) cells ≡ map module_of (take 128 row) =
    part_is_row (take 128 row) cells (min columns 128) (omega (arith, length-take 128 row, wide)) (λ k l.
    first k (omega (arith, l)) (omega (arith, l)) ∙ sym (get_or-take 128 row k false (omega (arith, l)))) in
    let rest : unpacked_cells (columns - 128) end ≡ map module_of (drop 128 row) =
    part_is_row (drop 128 row) end (columns - 128) (omega (arith, length-drop 128 row, wide)) (λ k l.
    behind k (omega (arith, l)) ∙ sym (get_or-drop 128 row k false)) in
    rw (front, rest, ← map-append module_of (take 128 row) (drop 128 row), take-append-drop)

-- Where the first 128 modules of a row are written, and the others behind them, the row is.
pub row_written : (start columns cells end width : ℕ) (old between new : List ℕ) → 128 < columns
    → width ≡ min columns 128
    → take (start + width) between ≡ take start old ++ unpacked_cells width cells
    → take (start + 128 + (columns - 128)) new ≡ take (start + 128) between ++ unpacked_cells (columns - 128) end
    → take (start + columns) new ≡ take start old ++ unpacked_row columns cells end
row_written start columns cells end width old between new long is first behind =
    let full : width ≡ 128 = omega (arith, is, long) in
    let whole : start + columns ≡ start + 128 + (columns - 128) = omega (arith, long) in
    let rest = unpacked_cells (columns - 128) end in
    rw (whole, behind)
    (ap (λ (n : ℕ). take (start + n) between ++ rest) (sym full) ∙ rw (first, append_assoc, is))

-- A row that is written behind those above it is written with the modules that it has.
pub row_shown : (start count row columns cells end : ℕ) (old new : List ℕ) (line : List Bool) → start ≡ row * columns
    → count ≡ columns → unpacked_row columns cells end ≡ map module_of line
    → take (start + count) new ≡ take start old ++ unpacked_row count cells end
    → take ((row + 1) * columns) new ≡ take (row * columns) old ++ map module_of line
row_shown start count row columns cells end old new line at wide is written =
    let last : (row + 1) * columns ≡ start + count = omega (arith, at, wide) in
    rw (last, written, at, wide, is)
