-- Grids and codewords of squares, which are kept as those of symbols.
use Rattle.dm_layout.proofs.Names.{◌≡◌, ◌≢◌, ℕ, ◌+◌, ◌<◌, ◌≤◌, Bool, true, false, ◌&&◌, None, below_more, refl, sym}
use Rattle.dm_layout.proofs.Names.{◌∙◌, ap, subst, arith, sum_by, count_by, range_with_len, SizeEntry, SymbolView}
use Rattle.dm_layout.proofs.Names.{IsSymbol, module_at, is_dark_bit, SizeRow, IsRow, row_of_entry, symbol_size}
use Rattle.dm_layout.proofs.Names.{block_length, largest_side, most_grid_codewords, IsGrid, symbol_modules, square_by}
use Rattle.dm_layout.proofs.Names.{symbol_words, Holds, IsLaid, IsKept, kept_grid, kept_words}
use Rattle.std.proofs.Math.Path.{fun_ext}
use Rattle.dm_layout.specs.symbols.Sizes as sizes
use Rattle.dm_layout.specs.symbols.Words as codewords
use Rattle.dm_layout.specs.symbols.Holding as holding
use Rattle.dm_layout.specs.symbols.Border as borders
use Rattle.dm_layout.specs.symbols.SureFaults.{sure_fault_count}
use Rattle.dm_layout.proofs.symbols.Exported.{modules_by, module_by, same_modules}
use Rattle.dm_layout.specs.Sizes.{block_data}
use Rattle.dm_layout.proofs.Squares.{is_grid, is_size, grid_holds, laid_in_grid, is_square}
use Rattle.dm_layout.proofs.TableRows.{row_facts}

-- ---- sizes

-- A kept size has at most as many rows as the largest square.
pub kept_fits : (e : SizeEntry) → IsKept e → e.rows ≤ largest_side
kept_fits e k = (row_facts (row_of_entry e) k.row).fits

-- It has at most as many codewords.
pub kept_room : (e : SizeEntry) → IsKept e → sizes.codeword_count e ≤ most_grid_codewords
kept_room e k = (row_facts (row_of_entry e) k.row).codewords

-- It has as many columns as rows.
pub kept_sides : (e : SizeEntry) → IsKept e → e.columns ≡ e.rows
kept_sides e k = sym (ap (λ (s : SizeEntry). s.columns) k.same)

-- Its blocks are of the length of its row's.
pub kept_whole : (e : SizeEntry) (b : ℕ) → IsKept e → b < e.blocks →
    sizes.block_length e b ≡ block_length (row_of_entry e)
kept_whole e b k l =
    ap (λ s. sizes.block_length s b) (sym k.same) ∙ (is_square (row_of_entry e) k.row).whole b l

-- They have as many data codewords as its row's.
pub kept_data : (e : SizeEntry) (b : ℕ) → IsKept e → b < e.blocks → sizes.block_data e b ≡ block_data (row_of_entry e)
kept_data e b k l = ap (λ s. sizes.block_data s b) (sym k.same) ∙ (is_square (row_of_entry e) k.row).data_part b l

-- ---- what is kept is the same symbol

-- The cells of a kept grid are the modules that it is kept as.
pub same_symbol : (m : SymbolView) → IsKept m.size → symbol_modules (kept_grid m) ≡ m
same_symbol m k = ap (λ (s : SizeEntry). record { size = s; rows = m.rows }) k.same

-- The codewords of a square are those that they are kept as.
pub same_codewords : (w : codewords.WordsView) → IsKept w.size → symbol_words (kept_words w) ≡ w
same_codewords w k = ap (λ (s : SizeEntry). record { size = s; list = w.list }) k.same

-- What is kept as well-formed modules is a well-formed grid.
pub kept_is_grid : (m : SymbolView) → IsKept m.size → IsSymbol m → IsGrid (kept_grid m)
kept_is_grid m k h = is_grid (kept_grid m) k.row (subst IsSymbol (sym (same_symbol m k)) h)

-- ---- holding

module _ (m : SymbolView) (w : codewords.WordsView) (k : IsKept m.size) where
  -- Codewords of the symbol's size are kept.
  kept_too : w.size ≡ m.size → IsKept w.size
  kept_too e = subst IsKept (sym e) k

  -- A grid holds the codewords that its symbol holds.
  pub kept_holds : holding.Holds m w → Holds (kept_grid m) (kept_words w)
  kept_holds h =
      grid_holds (kept_grid m) (kept_words w) k.row (ap row_of_entry h.same_size)
      (rw (← same_symbol m k, ← same_codewords w (kept_too h.same_size)) at h)

  -- Codewords that are laid in the symbol are laid in the grid.
  pub kept_laid : holding.IsLaid w m → IsLaid (kept_words w) (kept_grid m)
  kept_laid l =
      laid_in_grid (kept_grid m) (kept_words w) k.row (ap row_of_entry l.holds.same_size)
      (rw (← same_symbol m k, ← same_codewords w (kept_too l.holds.same_size)) at l)

-- ---- border faults

-- Where nothing is doubtful, all border faults are sure.
pub all_sure : (m : SymbolView) → sure_fault_count m None ≡ borders.border_fault_count m
all_sure m =
    ap (λ (fault : ℕ → ℕ → Bool). sum_by (λ row. count_by (fault row) (range_with_len 0 m.size.columns))
    (range_with_len 0 m.size.rows))
    (fun_ext (λ r. fun_ext (λ c. and_true (borders.is_fault m r c))))
  where
    and_true : (b : Bool) → (b && true) ≡ b
    and_true true = refl
    and_true false = refl

-- ---- rows that are put one after the other

-- The rows above `row` have these colours.
pub record IsPut (size : SizeEntry) (row : ℕ) (colour : ℕ → ℕ → Bool) (m : SymbolView) : Type 0 where
  pub same_size : m.size ≡ size
  pub symbol : IsSymbol m
  pub above : (r c : ℕ) → r < row → c < size.columns → module_at m r c ≡ colour r c

-- With one more row put, the rows above the next have their colours.
pub row_more : (e : SizeEntry) (row x : ℕ) (colour : ℕ → ℕ → Bool) (m n : SymbolView) → IsPut e row colour m →
    row < e.rows → e.columns ≤ 128 → n.size ≡ m.size → IsSymbol n →
    ((c : ℕ) → c < 128 → c < m.size.columns → module_at n row c ≡ is_dark_bit x c) →
    ((r c : ℕ) → r < m.size.rows → c < m.size.columns → r ≢ row → module_at n r c ≡ module_at m r c) →
    ((c : ℕ) → c < e.columns → is_dark_bit x c ≡ colour row c) → IsPut e (row + 1) colour n
row_more e row x colour m n put l narrow same symbol here others cells = record {
  same_size = same ∙ put.same_size;
  symbol = symbol;
  above = λ r c lr lc. below_more (λ q. module_at n q c ≡ colour q c) row (λ q lq. before q c lq lc) (last c lc) r lr;
}
  where
    wide : (c : ℕ) → c < e.columns → c < m.size.columns
    wide c = subst (λ (s : SizeEntry). c < s.columns) (sym put.same_size)

    before : (q c : ℕ) → q < row → c < e.columns → module_at n q c ≡ colour q c
    before q c lq lc =
        let other : q ≢ row = omega arith in
        let high : q < m.size.rows = subst (λ (s : SizeEntry). q < s.rows) (sym put.same_size) (omega (arith, lq, l)) in
        others q c high (wide c lc) other ∙ put.above q c lq lc

    last : (c : ℕ) → c < e.columns → module_at n row c ≡ colour row c
    last c lc = here c (omega (arith, lc, narrow)) (wide c lc) ∙ cells c lc

-- After the last row the modules are those of a square of these colours.
pub square_put : (s : SizeRow) (row : ℕ) (colour : ℕ → ℕ → Bool) (m : SymbolView) → IsRow s → s.side ≤ row →
    IsPut (symbol_size s) row colour m → m.rows ≡ square_by s.side colour
square_put s row colour m is_row far put =
    let e = put.same_size in
    let all =
    same_modules m (record { size = symbol_size s; rows = square_by s.side colour }) put.symbol
    (modules_by (symbol_size s) colour (is_size s is_row)) e
    (λ r c lr lc.
    let below : r < s.side = subst (λ (t : SizeEntry). r < t.rows) e lr in
    let inside : c < s.side = subst (λ (t : SizeEntry). c < t.columns) e lc in
    put.above r c (omega (arith, below, far)) inside ∙ sym (module_by s.side s.side colour r c below inside)) in
    ap (λ (n : SymbolView). n.rows) all
