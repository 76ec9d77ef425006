-- A normal grid of which some cells are turned over is still read.
use Rattle.dm_symbol.proofs.Names.{near_none_but, ◌≡◌, ℕ, zero, suc, ◌+◌, ◌-◌, ◌*◌, ◌/◌, ◌%◌, ◌^◌, ◌<◌, ◌≤◌, Bool, true}
use Rattle.dm_symbol.proofs.Names.{false, not, ◌&&◌, eqb, List, get_or, None, inl, inr, refl, sym, ap, subst, ◌∙◌}
use Rattle.dm_symbol.proofs.Names.{arith, cases_eq, false≢true, Extent, Usual, Item, Profile, IsNear, distance}
use Rattle.dm_symbol.proofs.Names.{IsNearBut, Square, SizeRow, IsRow, GridView, IsGrid, symbol_modules, block_check}
use Rattle.dm_symbol.proofs.Names.{SymbolView, border_fault_count, row_facts, same_row, as_content, IsMessage, Standard}
use Rattle.dm_symbol.proofs.Names.{sure_fault_count, AreOfSize, AreRestored, IsNormalGrid, Reads, words_with}
use Rattle.std.proofs.lemmas.Bool.Decides.{nat_tests}
use Rattle.std.proofs.lemmas.Bool.{true≢false}
use Rattle.dm_code.specs.Codeword.{differing}
use Rattle.dm_layout.specs.symbols.Holding.{Holds as HoldsModules}
use Rattle.dm_layout.specs.Sizes.{codeword_count, block_length}
use Rattle.dm_layout.specs.Grid.{cell_at}
use Rattle.dm_layout.specs.Border.{is_fault, is_border, border_is_dark, symbol_line}
use Rattle.dm_layout.proofs.Exported.{lies_inside, symbol_line-one, count_at_row, once_at_row, every_grid_holds}
use Rattle.dm_layout.proofs.Exported.{laid_in_grid, length_of_block, modules_hold, word_of_block}
use Rattle.std.specs.Bool.{beq}
use Rattle.std.specs.Int.{bit_at}
use Rattle.std.proofs.Math.Nat.{pow-suc}
use Rattle.std.proofs.lemmas.Nat.{same_from_place, mul-add-lt}
use Rattle.std.proofs.lemmas.Nat.Bits.{bit_at_lowest, bit_at-suc}
use Rattle.dm_place.specs.declared.shape.Cell.{Cell}
use Rattle.dm_layout.specs.Blocks.{block_of}
use Rattle.dm_layout.specs.Words.{WordsView}
use Rattle.dm_layout.specs.Placement.{place, At, IsPlace}
use Rattle.dm_layout.specs.Holds.{Holds, bit_of}
use Rattle.dm_place.proofs.Exported.{one_bit}
use Rattle.dm_symbol.specs.Laws.{turned_cells}
use Rattle.dm_symbol.proofs.Counts.{cells_grow, none_pass, IsWitness, differing_below_cells}
use Rattle.dm_symbol.proofs.SquareSizes.{half}
use Rattle.dm_symbol.proofs.SymbolDoubt.{erased_by_none, faults_by_none}
use Rattle.dm_symbol.proofs.PlainSymbols.{message_is_content}
use Rattle.dm_symbol.proofs.WrittenContents.{written_says}

-- ---- bits

-- Two different numbers below 2 ^ k differ in one of their k low bits.
pub bit_differs : (k x y : ℕ) → x < 2 ^ k → y < 2 ^ k → (x ≡ y → ⊥) → (j : ℕ) × (j < k) × (bit_at x j ≡ bit_at y j → ⊥)
bit_differs zero x y hx hy other = absurd (other (omega (arith, hx, hy)))
bit_differs (suc k) x y hx hy other =
    elim (cases_eq (x % 2) (y % 2)) [
      | inl e ↦
          let rest =
          bit_differs k (x / 2) (y / 2) (omega (arith, hx, pow-suc 2 k)) (omega (arith, hy, pow-suc 2 k))
          (λ h. other (omega (arith, e, h))) in
          (suc rest.0, omega (arith, rest.1), λ h. rest.2 (sym (bit_at-suc x rest.0) ∙ h ∙ bit_at-suc y rest.0))
      | inr differ ↦ (0, omega arith, λ h. differ (sym (bit_at_lowest x) ∙ h ∙ bit_at_lowest y))
    ]

-- ---- colours

-- Two colours that aren't equal differ.
colours_differ : (a b : Bool) → (a ≡ b → ⊥) → not (beq a b) ≡ true
colours_differ true true h = absurd (h refl)
colours_differ true false h = refl
colours_differ false true h = refl
colours_differ false false h = absurd (h refl)

-- A border cell of the wrong colour that had the right one has changed.
fault_shows : (p a b d : Bool) → (p && not (beq a d)) ≡ false → (p && not (beq b d)) ≡ true → not (beq a b) ≡ true
fault_shows false a b d right wrong = absurd (false≢true wrong)
fault_shows true true true true right wrong = absurd (false≢true wrong)
fault_shows true true true false right wrong = absurd (true≢false right)
fault_shows true true false d right wrong = refl
fault_shows true false true d right wrong = refl
fault_shows true false false true right wrong = absurd (true≢false right)
fault_shows true false false false right wrong = absurd (false≢true wrong)

-- Bits of the same colour are equal.
bit_is_one : (a b : ℕ) → a < 2 → b < 2 → eqb a 1 ≡ eqb b 1 → a ≡ b
bit_is_one a b ha hb e = grind (arith, nat_tests)

-- Two lists of codewords that differ in a codeword have a bit of it in which they differ.
colour_differs : (u v : List ℕ) (word : ℕ) → get_or u word 0 < 256 → get_or v word 0 < 256
    → (get_or u word 0 ≡ get_or v word 0 → ⊥)
    → (bit : ℕ) × (1 ≤ bit) × (bit ≤ 8) × (bit_of u word bit ≡ bit_of v word bit → ⊥)
colour_differs u v word hu hv other =
    let d = bit_differs 8 (get_or u word 0) (get_or v word 0) hu hv other in
    let back : 8 - (8 - d.0) ≡ d.0 = omega (arith, d.1) in (
      8 - d.0,
      omega (arith, d.1),
      omega arith,
      λ h.
          let same : eqb (bit_at (get_or u word 0) d.0) 1 ≡ eqb (bit_at (get_or v word 0) d.0) 1 =
          subst (λ j. eqb (bit_at (get_or u word 0) j) 1 ≡ eqb (bit_at (get_or v word 0) j) 1) back h in
          d.2 (bit_is_one (bit_at (get_or u word 0) d.0) (bit_at (get_or v word 0) d.0) (omega arith) (omega arith)
          same),
    )

-- ---- the cells of a block's codewords

-- A bit of codeword i of block b lies in the symbol cell.
record LiesAt (size : SizeRow) (b i r c : ℕ) : Type 0 where
  bit : ℕ
  from_one : 1 ≤ bit
  to_eight : bit ≤ 8
  row : symbol_line size.region_side (place size.mapping (i * size.blocks + b) bit).row ≡ r
  column : symbol_line size.region_side (place size.mapping (i * size.blocks + b) bit).column ≡ c

-- Cells with the same row and the same column are the same.
same_cell : (x y : Cell) → x.row ≡ y.row → x.column ≡ y.column → x ≡ y
same_cell x y e f = ap (λ r. At r x.column) e ∙ ap (λ c. At y.row c) f

-- A place of a block is a place of the symbol.
in_symbol : (size : SizeRow) → IsRow size → (b i : ℕ) → b < size.blocks → i < block_length size
    → i * size.blocks + b < codeword_count size
in_symbol size row b i hb hi =
    omega (arith, mul-add-lt i size.blocks b (block_length size) hi hb, (row_facts size row).dealt)

-- Each bit of each codeword of a block has its place.
is_place : (size : SizeRow) → IsRow size → (b i bit : ℕ) → b < size.blocks → i < block_length size → 1 ≤ bit → bit ≤ 8
    → IsPlace size.mapping (i * size.blocks + b) bit (place size.mapping (i * size.blocks + b) bit)
is_place size row b i bit hb hi low high = record {
  word_in = omega (arith, in_symbol size row b i hb hi, count_at_row size row);
  from_one = low;
  to_eight = high;
  there = refl;
}

-- A symbol cell holds a bit of at most one codeword of a block.
one_lies : (size : SizeRow) → IsRow size → (b : ℕ) → b < size.blocks → (i j r c : ℕ) → i < block_length size
    → j < block_length size
    → LiesAt size b i r c → LiesAt size b j r c → i ≡ j
one_lies size row b hb i j r c hi hj li lj =
    let least : 8 ≤ size.region_side = (row_facts size row).least in
    let x = place size.mapping (i * size.blocks + b) li.bit in
    let y = place size.mapping (j * size.blocks + b) lj.bit in
    let px = is_place size row b i li.bit hb hi li.from_one li.to_eight in
    let py = is_place size row b j lj.bit hb hj lj.from_one lj.to_eight in
    let same : y
    ≡ x = same_cell y x (symbol_line-one size.region_side y.row x.row least (lj.row ∙ sym li.row))
    (symbol_line-one size.region_side y.column x.column least (lj.column ∙ sym li.column)) in
    let py_at : IsPlace size.mapping (j * size.blocks + b) lj.bit x =
    subst (λ cell. IsPlace size.mapping (j * size.blocks + b) lj.bit cell) same py in
    let both =
    one_bit size.mapping size.mapping x.row x.column (i * size.blocks + b) li.bit (j * size.blocks + b) lj.bit
    (once_at_row size row) px py_at in
    (same_from_place i b j b size.blocks hb hb (sym both.0)).0

-- Two numbers that equal two different ones differ.
differ_too : (a b x y : ℕ) → a ≡ x → b ≡ y → (b ≡ a → ⊥) → x ≡ y → ⊥
differ_too a b x y p q other e = other (q ∙ sym e ∙ sym p)

-- A cell has changed if its colours in the two grids differ.
abbrev changed : GridView → GridView → ℕ → ℕ → Bool
changed g h row column = not (beq (cell_at g row column) (cell_at h row column))

-- These are the codewords of a grid of this size.
abbrev words_of : SizeRow → List ℕ → WordsView
words_of size list = record { size = size; list = list }

module _ (size : SizeRow) (rows others : List (List Bool)) (u v : List ℕ) where
  -- This is the grid before cells are turned over.
  abbrev before : GridView
  before = record { size = size; rows = rows }

  -- This is the grid after cells are turned over.
  abbrev after : GridView
  after = record { size = size; rows = others }

  -- A changed codeword has a changed cell.
  changed_cell : Holds before (words_of size u) → Holds after (words_of size v) → (b : ℕ) → b < size.blocks
      → (i : ℕ) → i < block_length size
      → (get_or (block_of size.blocks b v) i 0 ≡ get_or (block_of size.blocks b u) i 0 → ⊥)
      → IsWitness size.side (changed before after) (LiesAt size b) i
  changed_cell held_u held_v b hb i hi other =
      let row = held_u.square.row in
      let word = i * size.blocks + b in
      let within = in_symbol size row b i hb hi in
      let at_u = word_of_block (words_of size u) b i held_u.codewords hb hi in
      let at_v = word_of_block (words_of size v) b i held_v.codewords hb hi in
      let d = colour_differs u v word (held_u.codewords.bytes word 0 (omega (arith, within, held_u.codewords.count)))
      (held_v.codewords.bytes word 0 (omega (arith, within, held_v.codewords.count)))
      (differ_too (get_or (block_of size.blocks b u) i 0) (get_or (block_of size.blocks b v) i 0) (get_or u word 0)
      (get_or v word 0) at_u at_v other) in
      let cell = place size.mapping word d.0 in
      let here = is_place size row b i d.0 hb hi d.1 d.2 in
      let inside = (once_at_row size row).inside word d.0 cell here in
      let of_u = held_u.bits word d.0 cell here in
      let of_v = held_v.bits word d.0 cell here in
      record {
        row = symbol_line size.region_side cell.row;
        column = symbol_line size.region_side cell.column;
        row_in = lies_inside size cell.row row inside.0;
        column_in = lies_inside size cell.column row inside.1;
        passes = colours_differ _ _ (λ e. d.3 (sym of_u ∙ e ∙ of_v));
        belongs = record { bit = d.0; from_one = d.1; to_eight = d.2; row = refl; column = refl };
      }

  -- A block differs in at most as many codewords as cells have changed.
  block_changes : Holds before (words_of size u) → Holds after (words_of size v) → (b : ℕ) → b < size.blocks
      → distance (block_of size.blocks b v) (block_of size.blocks b u) ≤ turned_cells before after
  block_changes held_u held_v b hb =
      let long = length_of_block (words_of size v) b held_v.codewords hb in
      let x = block_of size.blocks b v in
      let y = block_of size.blocks b u in
      subst (λ k. differing x y k ≤ turned_cells before after) (sym long)
      (differing_below_cells size.side (LiesAt size b) x y (block_length size) (changed before after)
      (one_lies size held_u.square.row b hb) (changed_cell held_u held_v b hb))

-- A grid that has no border fault gets at most as many as cells change.
border_changes : (size : SizeRow) (rows others : List (List Bool))
    → border_fault_count (record { size = size; rows = rows }) ≡ 0
    → border_fault_count (record { size = size; rows = others }) ≤ turned_cells (record { size = size; rows = rows })
    (record { size = size; rows = others })
border_changes size rows others none =
    let g : GridView = record { size = size; rows = rows } in
    let h : GridView = record { size = size; rows = others } in
    cells_grow size.side (is_fault h) (changed g h) (λ r c hr hc wrong.
    fault_shows (is_border size r c) (cell_at g r c) (cell_at h r c) (border_is_dark size r c)
    (none_pass size.side (is_fault g) r c none hr hc) wrong)

-- Words that are near to codewords of a symbol, block by block, are restored to these where no module is doubtful.
restored_plainly : (extent : Extent) (modules : SymbolView) (u c : List ℕ)
    → HoldsModules modules (words_with modules.size u) → AreOfSize modules.size c
    → ((b : ℕ) → b < modules.size.blocks
    → IsNear (block_check modules.size) (block_of modules.size.blocks b u) (block_of modules.size.blocks b c))
    → AreRestored extent modules None Standard u c
restored_plainly extent modules u c held of_size near = record {
  tried = λ e. cc;
  by = record {
    words_held = held;
    of_size = of_size;
    near = λ b hb.
        let k = block_check modules.size in
        subst (λ e. IsNearBut k (block_of modules.size.blocks b u) e (block_of modules.size.blocks b c))
        (sym (erased_by_none modules.size b))
        (near_none_but k (block_of modules.size.blocks b u) (block_of modules.size.blocks b c) (near b hb));
  };
}

-- A normal grid of which no more cells are turned over is read as its message.
turned_reads : (p : Profile) (m : List Item) (normal : GridView) (others : List (List Bool))
    (limit : ℕ) → IsMessage m → IsNormalGrid p m normal
    → IsGrid (record { size = normal.size; rows = others })
    → turned_cells normal (record { size = normal.size; rows = others }) ≤ normal.size.limit
    → normal.size.limit ≤ limit → Reads (record { size = normal.size; rows = others }) limit m
turned_reads p m normal others limit h n is_grid few at_least =
    let size = normal.size in
    let row = n.is_grid.row in
    let grid : GridView = record { size = size; rows = others } in
    let words = n.normal.words in
    let laid = laid_in_grid normal (words_of size words) row refl n.normal.laid in
    let some = every_grid_holds grid is_grid in
    let held : Holds grid (words_of size some.0.list) =
    subst (Holds grid) (ap (λ s. words_of s some.0.list) some.1.same_size) some.1 in
    let faults = border_changes size normal.rows others laid.border in
    let sure : border_fault_count grid ≡ sure_fault_count (symbol_modules grid) None =
    faults_by_none (symbol_modules grid) in
    record {
      is_grid = is_grid;
      read = record {
        border = omega (arith, sure, faults, few, at_least);
        dealing = Standard;
        words = some.0.list;
        codewords = words;
        restored = restored_plainly Usual (symbol_modules grid) some.0.list words (modules_hold grid _ held)
            n.normal.laid.holds.codewords (λ b hb. record {
              codeword = n.normal.checked b hb;
              long = length_of_block (words_of size words) b laid.holds.codewords hb
                  ∙ sym (length_of_block (words_of size some.0.list) b held.codewords hb);
              close = omega (
                arith,
                block_changes size normal.rows others words some.0.list laid.holds held b hb,
                few,
                half size row,
              );
            });
        said = written_says Square p (as_content m) (symbol_modules normal) n.normal (message_is_content m h) Usual
            refl;
      };
    }

-- If no more cells of a normal grid are turned over than codewords can be corrected in a block, the grid that comes out
-- is read as its message.
pub turned_cells_are_read : (p : Profile) (m : List Item) (normal grid : GridView) (limit : ℕ)
    → IsMessage m → IsNormalGrid p m normal → IsGrid grid
    → grid.size.side ≡ normal.size.side → turned_cells normal grid ≤ normal.size.limit → normal.size.limit ≤ limit
    → Reads grid limit m
turned_cells_are_read p m normal grid limit h n is_grid side few at_least =
    let same : grid.size ≡ normal.size = same_row grid.size normal.size is_grid.row n.is_grid.row side in
    let whole : ◌≡◌ {A = GridView} grid (record { size = normal.size; rows = grid.rows }) =
    ap (λ (s : SizeRow). let g : GridView = record { size = s; rows = grid.rows } in g) same in
    subst (λ g. Reads g limit m) (sym whole)
    (turned_reads p m normal grid.rows limit h n (subst IsGrid whole is_grid)
    (subst (λ g. turned_cells normal g ≤ normal.size.limit) whole few) at_least)
