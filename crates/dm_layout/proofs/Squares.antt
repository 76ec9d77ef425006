-- Squares are symbols whose rows and columns are alike, and so what holds of symbols holds of squares.
use Rattle.dm_layout.proofs.Names.{arith, nat_tests, ◌≡◌, ℕ, ◌*◌, ◌<◌, Bool, true, List, Some, nat_eq, refl, sym, ◌∙◌}
use Rattle.dm_layout.proofs.Names.{ap, subst, AllByRecursion, list_all, range_with_len, eqb-true, HoldsBits, all_below}
use Rattle.dm_layout.proofs.Names.{SymbolView, IsSymbol, SizeRow, IsRow, symbol_size, regions_across, block_length}
use Rattle.dm_layout.proofs.Names.{GridView, IsGrid, symbol_modules, symbol_words, Holds, IsLaid}
use Rattle.dm_place.specs.Border as matrix
use Rattle.dm_layout.specs.symbols.Sizes as sizes
use Rattle.dm_layout.specs.symbols.Words as codewords
use Rattle.dm_layout.specs.symbols.Holding as holding
use Rattle.dm_layout.proofs.symbols.Exported.{at_found, one_held, one_laid as one_laid_of, some_held, some_laid}
use Rattle.dm_layout.specs.Sizes.{size_table, block_data, TableIsOfSquares}
use Rattle.dm_layout.specs.Words.{WordsView, IsWords}
use Rattle.dm_layout.specs.Border.{mapped_cell}
use Rattle.dm_layout.specs.Squares.{IsSquare, GridsAreModules, WordsAreCodewords, HeldAlike, LaidAlike}
use Rattle.dm_layout.proofs.TableRows.{passed_at_row, row_facts, same_at_row}
use Rattle.dm_layout.proofs.symbols.Exported.{same_in_each}

-- ---- sizes

-- The table is what the checker finds in the table of all symbols.
pub table_of_squares : TableIsOfSquares
unfolding size_table sizes.size_table
table_of_squares = refl

-- For each row of the table, the checker finds its size in the table of all symbols.
all_sizes : AllByRecursion (λ row. sizes.IsSize (symbol_size row)) size_table
unfolding size_table sizes.size_table
all_sizes = same_in_each (λ row. sizes.entry_with row.side row.side) (λ row. Some (symbol_size row)) size_table refl

-- Each size of a square stands in the table of all symbols.
pub is_size : (s : SizeRow) → IsRow s → sizes.IsSize (symbol_size s)
is_size s row = at_found (λ r. sizes.IsSize (symbol_size r)) (λ r. nat_eq r.side s.side) size_table s all_sizes row

-- A number that is the same for each block of each row of the table is so for each block of a size.
same_at_block : (x : SizeRow → ℕ → ℕ) (y : SizeRow → ℕ) (s : SizeRow) → IsRow s →
    list_all (λ r. list_all (λ b. nat_eq (x r b) (y r)) (range_with_len 0 r.blocks)) size_table ≡ true →
    (b : ℕ) → b < s.blocks → x s b ≡ y s
same_at_block x y s row h b l =
    let f : SizeRow → Bool = λ r. list_all (λ b. nat_eq (x r b) (y r)) (range_with_len 0 r.blocks) in
    eqb-true _ _ (all_below (λ b. nat_eq (x s b) (y s)) s.blocks b (passed_at_row f s h row) l)

-- So it is that of a symbol, with the same mapping square, limit and blocks.
pub is_square : (s : SizeRow) → IsRow s → IsSquare s
unfolding size_table
is_square s row = record {
  size = is_size s row;
  mapping_rows = sym (row_facts s row).mapping;
  mapping_columns = sym (row_facts s row).mapping;
  limit = same_at_row (λ r. sizes.limit (symbol_size r)) (λ r. r.limit) s row refl;
  data_part = same_at_block (λ r b. sizes.block_data (symbol_size r) b) block_data s row refl;
  whole = same_at_block (λ r b. sizes.block_length (symbol_size r) b) block_length s row refl;
}

-- Sizes of the table with the same side are the same.
pub same_row : (s t : SizeRow) → IsRow s → IsRow t → s.side ≡ t.side → s ≡ t
same_row s t h k e = grind (arith, nat_tests)

-- ---- grids and codewords

-- A grid is the modules of a symbol.
pub is_modules : (grid : GridView) → IsGrid grid → IsSymbol (symbol_modules grid)
is_modules grid g = record { size = is_size grid.size g.row; height = g.height; width = g.width }

-- The modules of a symbol of a square's size are a grid.
pub is_grid : (grid : GridView) → IsRow grid.size → IsSymbol (symbol_modules grid) → IsGrid grid
is_grid grid row m = record { row = row; height = m.height; width = m.width }

-- The codewords of a square are those of a symbol.
pub are_codewords : (words : WordsView) → IsWords words → codewords.IsWords (symbol_words words)
are_codewords words w = record { size = is_size words.size w.row; count = w.count; bytes = w.bytes }

-- The codewords of a symbol of a square's size are those of a square.
pub are_words : (words : WordsView) → IsRow words.size → codewords.IsWords (symbol_words words) → IsWords words
are_words words row w = record { row = row; count = w.count; bytes = w.bytes }

pub grids_are_modules : GridsAreModules
grids_are_modules grid row = (is_modules grid, is_grid grid row)

pub words_are_codewords : WordsAreCodewords
words_are_codewords words row = (are_codewords words, are_words words row)

-- The grid that has this size and these rows.
abbrev pub grid_from : SizeRow → List (List Bool) → GridView
grid_from size rows = record { size = size; rows = rows }

-- Grids of equal sizes with equal rows are equal.
pub same_parts : (s t : SizeRow) (xs ys : List (List Bool)) → s ≡ t → xs ≡ ys → grid_from s xs ≡ grid_from t ys
same_parts s t xs ys p q = cc

-- The codewords that have this size and this list.
abbrev words_from : SizeRow → List ℕ → WordsView
words_from size list = record { size = size; list = list }

-- Codewords of equal sizes with equal lists are equal.
same_lists : (s t : SizeRow) (xs ys : List ℕ) → s ≡ t → xs ≡ ys → words_from s xs ≡ words_from t ys
same_lists s t xs ys p q = cc

-- ---- holding

-- What holds of a mapping matrix of so many rows and columns as a symbol of a square's size has, holds of the mapping
-- square, and the other way round.
pub to_square : (P : ℕ → Type 0) (s : SizeRow) → IsRow s → P (regions_across s * s.region_side) → P s.mapping
to_square P s row = subst P (sym (row_facts s row).mapping)

pub from_square : (P : ℕ → Type 0) (s : SizeRow) → IsRow s → P s.mapping → P (regions_across s * s.region_side)
from_square P s row = subst P (row_facts s row).mapping

-- What a grid holds, its modules hold.
pub modules_hold : (grid : GridView) (words : WordsView) → Holds grid words →
    holding.Holds (symbol_modules grid) (symbol_words words)
modules_hold grid words h = record {
  symbol = is_modules grid h.square;
  codewords = are_codewords words h.codewords;
  same_size = ap symbol_size h.same_size;
  bits = from_square (λ n. HoldsBits n n (mapped_cell grid) words.list) grid.size h.square.row h.bits;
}

-- What the modules of a grid hold, it holds.
pub grid_holds : (grid : GridView) (words : WordsView) → IsRow grid.size → words.size ≡ grid.size →
    holding.Holds (symbol_modules grid) (symbol_words words) → Holds grid words
grid_holds grid words row same h = record {
  square = is_grid grid row h.symbol;
  codewords = are_words words (subst IsRow (sym same) row) h.codewords;
  same_size = same;
  bits = to_square (λ n. HoldsBits n n (mapped_cell grid) words.list) grid.size row h.bits;
}

pub held_alike : HeldAlike
held_alike grid words row same = (modules_hold grid words, grid_holds grid words row same)

-- Codewords that are laid in a grid are laid in its modules.
pub laid_in_modules : (grid : GridView) (words : WordsView) → IsLaid words grid →
    holding.IsLaid (symbol_words words) (symbol_modules grid)
laid_in_modules grid words l = record {
  holds = modules_hold grid words l.holds;
  border = l.border;
  fixed_square =
      from_square (λ n. matrix.HasFixedSquare n n (mapped_cell grid)) grid.size l.holds.square.row l.fixed_square;
}

-- Codewords that are laid in the modules of a grid are laid in it.
pub laid_in_grid : (grid : GridView) (words : WordsView) → IsRow grid.size → words.size ≡ grid.size →
    holding.IsLaid (symbol_words words) (symbol_modules grid) → IsLaid words grid
laid_in_grid grid words row same l = record {
  holds = grid_holds grid words row same l.holds;
  border = l.border;
  fixed_square = to_square (λ n. matrix.HasFixedSquare n n (mapped_cell grid)) grid.size row l.fixed_square;
}

pub laid_alike : LaidAlike
laid_alike grid words row same = (laid_in_modules grid words, laid_in_grid grid words row same)

-- ---- one and some

-- A grid holds only one list of codewords.
pub one_list : (grid : GridView) (a b : WordsView) → Holds grid a → Holds grid b → a ≡ b
one_list grid a b ha hb =
    let one =
    one_held (symbol_modules grid) (symbol_words a) (symbol_words b) (modules_hold grid a ha)
    (modules_hold grid b hb) in
    same_lists a.size b.size a.list b.list (ha.same_size ∙ sym hb.same_size)
    (ap (λ (w : codewords.WordsView). w.list) one)

-- A grid holds some codewords.
pub every_grid_holds : (grid : GridView) → IsGrid grid → (words : WordsView) × Holds grid words
every_grid_holds grid g =
    let some = some_held (symbol_modules grid) (is_modules grid g) in
    let words : WordsView = record { size = grid.size; list = some.0.list } in (
      words,
      grid_holds grid words g.row refl (rw (same_view some.0 some.1.same_size) at some.1),
    )
  where
    view : sizes.SizeEntry → List ℕ → codewords.WordsView
    view size list = record { size = size; list = list }

    same_list : (s t : sizes.SizeEntry) (xs : List ℕ) → s ≡ t → view s xs ≡ view t xs
    same_list s t xs e = cc

    same_view : (w : codewords.WordsView) → w.size ≡ symbol_size grid.size →
        w ≡ symbol_words (record { size = grid.size; list = w.list })
    same_view w e = same_list w.size (symbol_size grid.size) w.list e

-- Codewords are laid in only one grid.
pub one_laid : (words : WordsView) (g k : GridView) → IsLaid words g → IsLaid words k → g ≡ k
one_laid words g k a b =
    let one =
    one_laid_of (symbol_words words) (symbol_modules g) (symbol_modules k) (laid_in_modules g words a)
    (laid_in_modules k words b) in
    same_parts g.size k.size g.rows k.rows (sym a.holds.same_size ∙ b.holds.same_size)
    (ap (λ (m : SymbolView). m.rows) one)

-- Codewords are laid in some grid.
pub laid_somewhere : (words : WordsView) → IsWords words → (grid : GridView) × IsLaid words grid
laid_somewhere words w =
    let some = some_laid (symbol_words words) (are_codewords words w) in
    let grid : GridView = record { size = words.size; rows = some.0.rows } in (
      grid,
      laid_in_grid grid words w.row refl (rw (same_view some.0 (sym some.1.holds.same_size)) at some.1),
    )
  where
    view : sizes.SizeEntry → List (List Bool) → SymbolView
    view size rows = record { size = size; rows = rows }

    same_rows : (s t : sizes.SizeEntry) (xs : List (List Bool)) → s ≡ t → view s xs ≡ view t xs
    same_rows s t xs e = cc

    same_view : (m : SymbolView) → m.size ≡ symbol_size words.size →
        m ≡ symbol_modules (record { size = words.size; rows = m.rows })
    same_view m e = same_rows m.size (symbol_size words.size) m.rows e
