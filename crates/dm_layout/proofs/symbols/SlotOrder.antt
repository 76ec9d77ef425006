-- What the computed tests of the slots say of each size.
use Rattle.dm_layout.proofs.Names.{◌≡◌, inl, inr, ℕ, zero, suc, ◌+◌, ◌-◌, ◌*◌, ◌/◌, ◌%◌, ◌<◌, ◌≤◌, true, refl, subst}
use Rattle.dm_layout.proofs.Names.{◌&&◌, nat_eq, nat_lt, nat_le, List, [], ◌∷◌, ◌++◌, map, length, take, set, get_or}
use Rattle.dm_layout.proofs.Names.{ap, sym, ◌∙◌, arith, list_all, pointwise, and_parts, ltb-true, leb-true, length-map}
use Rattle.dm_layout.proofs.Names.{length-append, get_or-map, get_or_append_left, SizeEntry, IsSize, codeword_count}
use Rattle.dm_layout.proofs.Names.{mapping_rows, mapping_columns, shapes, cells_of, Shape, Standard, Corner1, Corner2}
use Rattle.dm_layout.proofs.Names.{Corner3, Corner4, few_shapes, inside_test, count_at_sides, bytes_of, most_of}
use Rattle.dm_layout.proofs.Names.{order_of, slot_of, HasSlot, rest_order_of, less_of}
use Rattle.std.specs.Cmp.Lexicographic.{same_text}
use Rattle.std.proofs.lemmas.List.{take_more, take_more_set, get_or-append-add}
use Rattle.dm_layout.proofs.symbols.Exported.{placed_size, size_facts}
use Rattle.dm_place.proofs.Exported.{shapes-few}
use Rattle.dm_layout.specs.symbols.inner.Slots.{first_order_of}
use Rattle.dm_layout.proofs.symbols.LiftedWords.{fits_test, kind_test, slot_row, slot_place}
use Rattle.dm_layout.proofs.symbols.Sizes.{even_product}
use Rattle.dm_layout.proofs.symbols.TableEntries.{passed_at_size}
use Rattle.dm_layout.proofs.symbols.TestedSlots as slotted
use Rattle.dm_layout.proofs.symbols.TestedSlots.{slots_test, room_test, less_test}

-- The slots of a matrix are those of its shapes, and the shapes fit.
pub record IsOrder (bytes most R C : ℕ) : Type 0 where
  pub slots : order_of R C ≡ map (slot_of bytes most) (shapes R C)
  pub fits : list_all (fits_test R C) (shapes R C) ≡ true

-- The rows for a mapping matrix, of so many bytes each, have room for its rows and columns.
pub record HasRoom (R C bytes most : ℕ) : Type 0 where
  pub rows : R ≤ most
  pub columns : C ≤ most
  pub slots : C ≤ 8 * bytes
  pub least_rows : 6 ≤ R
  pub least_columns : 6 ≤ C
  pub even_rows : R % 2 ≡ 0
  pub even_columns : C % 2 ≡ 0

-- Each size has room in its rows.
pub room_at_size : (s : SizeEntry) (bytes most : ℕ) → IsSize s → bytes ≡ bytes_of (mapping_columns s) →
    most ≡ most_of (mapping_columns s) → HasRoom (mapping_rows s) (mapping_columns s) bytes most
room_at_size s bytes most entry eb em =
    let R : ℕ = mapping_rows s in
    let C : ℕ = mapping_columns s in
    let facts = size_facts s entry in
    let passed =
    passed_at_size (λ size. room_test (mapping_rows size) (mapping_columns size)) s slotted.room_tested entry in
    let both = and_parts (nat_le R (most_of C) && nat_le C (most_of C)) (nat_le C (8 * bytes_of C)) passed in
    let first = and_parts (nat_le R (most_of C)) (nat_le C (most_of C)) both.0 in
    record {
      rows = subst (λ (i : ℕ). R ≤ i) (sym em) (leb-true R (most_of C) first.0);
      columns = subst (λ (i : ℕ). C ≤ i) (sym em) (leb-true C (most_of C) first.1);
      slots = subst (λ (i : ℕ). C ≤ 8 * i) (sym eb) (leb-true C (8 * bytes_of C) both.1);
      least_rows = facts.least_matrix_rows;
      least_columns = facts.least_matrix_columns;
      even_rows = even_product s.regions_down s.region_rows facts.even_rows;
      even_columns = even_product s.regions_across s.region_columns facts.even_columns;
    }

-- Each size has its slots in the order of its shapes.
pub order_at_size : (s : SizeEntry) (bytes most : ℕ) → IsSize s → bytes ≡ bytes_of (mapping_columns s) →
    most ≡ most_of (mapping_columns s) → IsOrder bytes most (mapping_rows s) (mapping_columns s)
order_at_size s bytes most entry eb em =
    let R : ℕ = mapping_rows s in
    let C : ℕ = mapping_columns s in
    let passed =
    passed_at_size (λ size. slots_test (mapping_rows size) (mapping_columns size)) s slotted.tested entry in
    let both =
    and_parts (pointwise nat_eq (order_of R C) (map (slot_of (bytes_of C) (most_of C)) (few_shapes R C)))
    (list_all (fits_test R C) (few_shapes R C)) passed in
    record {
      slots =
          same_text (order_of R C) (map (slot_of (bytes_of C) (most_of C)) (few_shapes R C)) (sym both.0)
          ∙ ap (λ (i : ℕ). map (slot_of i (most_of C)) (few_shapes R C)) (sym eb)
          ∙ ap (λ (i : ℕ). map (slot_of bytes i) (few_shapes R C)) (sym em)
          ∙ ap (map (slot_of bytes most)) (sym (shapes-few R C));
      fits = ap (list_all (fits_test R C)) (shapes-few R C) ∙ both.1;
    }

-- The slot of a shape that fits lies in the rows.
slot_fits : (bytes most R C : ℕ) (s : Shape) → HasRoom R C bytes most → fits_test R C s ≡ true →
    HasSlot bytes most (slot_of bytes most s)
slot_fits bytes most R C (Standard r c) room fits =
    let both = and_parts (kind_test R C (Standard r c)) (inside_test R C (cells_of R C (Standard r c))) fits in
    let kind = and_parts (nat_lt r R && nat_lt c C) (nat_eq ((5 * r + c) % 8) 4) both.0 in
    let here = and_parts (nat_lt r R) (nat_lt c C) kind.0 in
    let lr = ltb-true r R here.0 in
    let lc = ltb-true c C here.1 in
    let k : c / 8 < bytes = omega (arith, lc, room.slots) in
    let row = slot_row bytes r (c / 8) k in
    let place = slot_place bytes r (c / 8) k in
    inr (omega (arith, row, lr, room.rows), omega (arith, place, lc, room.columns))
slot_fits bytes most R C Corner1 room fits = inl refl
slot_fits bytes most R C Corner2 room fits = inl refl
slot_fits bytes most R C Corner3 room fits = inl refl
slot_fits bytes most R C Corner4 room fits = inl refl

-- The slots of shapes that fit lie in the rows.
slots_fit : (bytes most R C i : ℕ) (ss : List Shape) → HasRoom R C bytes most → list_all (fits_test R C) ss ≡ true →
    i < length (map (slot_of bytes most) ss) → HasSlot bytes most (get_or (map (slot_of bytes most) ss) i 0)
slots_fit bytes most R C i [] room fits li = absurd (omega arith)
slots_fit bytes most R C zero (s ∷ ss) room fits li =
    slot_fits bytes most R C s room (and_parts (fits_test R C s) (list_all (fits_test R C) ss) fits).0
slots_fit bytes most R C (suc i) (s ∷ ss) room fits li =
    slots_fit bytes most R C i ss room (and_parts (fits_test R C s) (list_all (fits_test R C) ss) fits).1 (omega arith)

-- What is known of the slots of a size, whose mapping matrix has m rows and k columns.
pub record AreKnown (s : SizeEntry) (m k bytes most : ℕ) (xs : List ℕ) : Type 0 where
  pub high : m ≡ mapping_rows s
  pub wide : k ≡ mapping_columns s
  pub slots : xs ≡ map (slot_of bytes most) (shapes m k)
  pub fits : list_all (fits_test m k) (shapes m k) ≡ true
  pub count : length xs ≡ codeword_count s
  pub shape_count : length (shapes m k) ≡ codeword_count s
  pub each : (i : ℕ) → i < length xs → HasSlot bytes most (get_or xs i 0)
  pub room : HasRoom m k bytes most

-- There are as many slots as codewords, and each lies in the rows.
pub known : (s : SizeEntry) (m k bytes most : ℕ) (xs : List ℕ) → IsSize s → bytes ≡ bytes_of (mapping_columns s) →
    most ≡ most_of (mapping_columns s) → m ≡ mapping_rows s → k ≡ mapping_columns s → xs ≡ order_of m k →
    AreKnown s m k bytes most xs
known s m k bytes most xs entry eb em er ec e =
    let order : IsOrder bytes most m k =
    rw (← ec, ← er) at (order_at_size s bytes most entry eb em) in
    let room : HasRoom m k bytes most =
    rw (← ec, ← er) at (room_at_size s bytes most entry eb em) in
    let slots : xs ≡ map (slot_of bytes most) (shapes m k) = e ∙ order.slots in
    let shape_count : length (shapes m k) ≡ codeword_count s =
    rw (er, ec, count_at_sides (mapping_rows s) (mapping_columns s) (codeword_count s) (placed_size s entry)) in
    let n = ap length slots in
    record {
      high = er;
      wide = ec;
      slots = slots;
      fits = order.fits;
      count = n ∙ length-map (shapes m k) (slot_of bytes most) ∙ shape_count;
      shape_count = shape_count;
      each = λ i l.
          rw (← slots) at (slots_fit bytes most m k i (shapes m k) room order.fits (omega (arith, n, l)));
      room = room;
    }

-- When the codeword of the next slot is read, the first i + 1 codewords are those of the slots.
pub read_more : (f : ℕ → ℕ) (list slots : List ℕ) (i x : ℕ) → i < length list → i < length slots →
    x ≡ f (get_or slots i 0) → take i list ≡ take i (map f slots) →
    take (i + 1) (set list i x) ≡ take (i + 1) (map f slots)
read_more f list slots i x l k e h =
    let m = length-map slots f in
    cc (take_more_set list i x l, h, e, get_or-map f slots i 0 0 k, take_more (map f slots) i 0 (omega (arith, m, k)))

-- A list of slots has two parts, in the second of which each is `less` too large.
pub record AreParts (xs first rest : List ℕ) (less : ℕ) : Type 0 where
  pub count : length xs ≡ length first + length rest
  pub early : (i : ℕ) → i < length first → get_or xs i 0 ≡ get_or first i 0
  pub late : (j : ℕ) → j < length rest → get_or xs (length first + j) 0 ≡ get_or rest j 0 - less
  pub least : (j : ℕ) → j < length rest → less ≤ get_or rest j 0

-- A number that is at most each of a list is at most this one.
at_most_each : (d j : ℕ) (xs : List ℕ) → list_all (nat_le d) xs ≡ true → j < length xs → d ≤ get_or xs j 0
at_most_each d j [] most l = absurd (omega arith)
at_most_each d zero (x ∷ xs) most l = leb-true d x (and_parts (nat_le d x) (list_all (nat_le d) xs) most).0
at_most_each d (suc j) (x ∷ xs) most l =
    at_most_each d j xs (and_parts (nat_le d x) (list_all (nat_le d) xs) most).1 (omega arith)

-- Two parts make a list.
parted : (first rest : List ℕ) (less : ℕ) → list_all (nat_le less) rest ≡ true →
    AreParts (first ++ map (λ x. x - less) rest) first rest less
parted first rest less most =
    let f : ℕ → ℕ = λ x. x - less in
    record {
      count = length-append first (map f rest) ∙ ap (λ (i : ℕ). length first + i) (length-map rest f);
      early = λ i l. get_or_append_left first (map f rest) 0 i l;
      late = λ j l. get_or-append-add first (map f rest) j 0 ∙ get_or-map f rest j 0 0 l;
      least = λ j l. at_most_each less j rest most l;
    }

-- The slots of a size, whose mapping matrix has m rows and k columns, have their two parts.
pub parts_at_size : (s : SizeEntry) (m k less : ℕ) (first rest : List ℕ) → IsSize s → m ≡ mapping_rows s →
    k ≡ mapping_columns s → first ≡ first_order_of m k → rest ≡ rest_order_of m k → less ≡ less_of m k →
    AreParts (order_of m k) first rest less
parts_at_size s m k less first rest entry er ec ef et el =
    let tested : less_test (mapping_rows s) (mapping_columns s) ≡ true =
    passed_at_size (λ size. less_test (mapping_rows size) (mapping_columns size)) s slotted.less_tested entry in
    let most : less_test m k ≡ true =
    ap (λ (i : ℕ). less_test i k) er ∙ ap (λ (i : ℕ). less_test (mapping_rows s) i) ec ∙ tested in
    let all : AreParts (order_of m k) (first_order_of m k) (rest_order_of m k) (less_of m k) =
    parted (first_order_of m k) (rest_order_of m k) (less_of m k) most in
    rw (ef, et, el) all
