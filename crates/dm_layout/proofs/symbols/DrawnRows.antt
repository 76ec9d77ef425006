-- A symbol that is drawn from the rows of its mapping matrix.
use Rattle.dm_layout.proofs.Names.{nat_tests, ◌≡◌, ◌≢◌, ◌⊎◌, inl, inr, ℕ, ◌+◌, ◌*◌, ◌%◌, ◌^◌, ◌<◌, ◌≤◌, Bool, true}
use Rattle.dm_layout.proofs.Names.{false, ◌&&◌, ◌||◌, nat_eq, nat_le, List, refl, sym, ◌∙◌, ap, arith, subst, eq-eqb}
use Rattle.dm_layout.proofs.Names.{length, get_or, set, bit_or, length-set, true≢false, eqb-true, eqb-false, ne_eqb}
use Rattle.dm_layout.proofs.Names.{and_parts, leb-true, le-leb, cases_lt, cases_eq, mod-mul-add, Cell, is_fixed}
use Rattle.dm_layout.proofs.Names.{fixed_is_dark, symbol_line, is_on_edge, edge_is_dark, IsPlace, EachCellOnce, bit_of}
use Rattle.dm_layout.proofs.Names.{once_at_sides, none_fixed, is_border, border_is_dark, mapped_cell, SymbolView}
use Rattle.dm_layout.proofs.Names.{IsSymbol, module_at, SizeEntry, IsSize, mapping_rows, mapping_columns}
use Rattle.dm_layout.proofs.Names.{codeword_count, WordsView, IsWords, IsDrawn, mapping_line, look_in, whole_row}
use Rattle.dm_layout.proofs.Names.{is_dark_bit}
use Rattle.dm_layout.proofs.symbols.KeptRows.{whole_cells}
use Rattle.dm_layout.proofs.symbols.Painting.{bit_put}
use Rattle.dm_layout.specs.symbols.Holding.{IsLaid}
use Rattle.dm_layout.proofs.symbols.Exported.{no_faults, off_border, off_edge, mapping_line-symbol_line, placed_size}
use Rattle.dm_layout.proofs.symbols.Exported.{row_inside, size_facts}
use Rattle.dm_layout.specs.symbols.inner.RowDrawing.{drawn_colour}
use Rattle.dm_layout.proofs.symbols.Sizes.{column_inside}

-- A border module has its colour.
pub on_border : (size : SizeEntry) (look : ℕ → ℕ → Bool) (r c : ℕ) → is_border size r c ≡ true →
    drawn_colour size look r c ≡ border_is_dark size r c
on_border size look r c h = grind (arith, nat_tests)

-- Any other module has that of a cell of the mapping matrix.
pub off_borders : (size : SizeEntry) (look : ℕ → ℕ → Bool) (r c : ℕ) → is_border size r c ≡ false →
    drawn_colour size look r c ≡ look (mapping_line size.region_rows r) (mapping_line size.region_columns c)
off_borders size look r c h = grind (arith, nat_tests)

-- One of four tests passes if the second or the third does.
any_of : (p q r s : Bool) → (q ≡ true) ⊎ (r ≡ true) → (p || q || r || s) ≡ true
any_of x q r s e = grind (arith, nat_tests)

-- In a row at the top or at the bottom of its regions all modules are of borders.
pub edge_row : (size : SizeEntry) (look : ℕ → ℕ → Bool) (row c dark : ℕ) →
    ((row % (size.region_rows + 2) ≡ size.region_rows + 1) ⊎ (row % (size.region_rows + 2) ≡ 0)) →
    is_dark_bit dark c ≡ (is_border size row c && border_is_dark size row c) →
    is_dark_bit dark c ≡ drawn_colour size look row c
edge_row size look row c dark at is = grind (arith, nat_tests, on_border, eq-eqb, any_of)

-- In a row between them a module is of a border, or lies in a cell of the mapping matrix.
pub between_row : (size : SizeEntry) (look : ℕ → ℕ → Bool) (row c dark outer inner : ℕ) → IsSize size →
    row < size.rows → c < size.columns →
    row % (size.region_rows + 2) ≢ 0 → row % (size.region_rows + 2) ≢ size.region_rows + 1 →
    is_dark_bit dark c ≡ (is_border size row c && border_is_dark size row c) →
    ((q : ℕ) → q < mapping_columns size → is_dark_bit outer (symbol_line size.region_columns q) ≡ is_dark_bit inner q) →
    ((q : ℕ) → ((q % (size.region_columns + 2) ≡ 0) ⊎ (q % (size.region_columns + 2) ≡ size.region_columns + 1)) →
    is_dark_bit outer q ≡ false) →
    ((q : ℕ) → q < mapping_columns size → is_dark_bit inner q ≡ look (mapping_line size.region_rows row) q) →
    (is_dark_bit dark c || is_dark_bit outer c) ≡ drawn_colour size look row c
between_row size look row c dark outer inner entry lr lc top bottom is mapped border cells =
    by_border (is_border size row c) refl
  where
    alone : (a b : Bool) → b ≡ false → (a || b) ≡ a
    alone true b e = refl
    alone false b e = e

    on_side : (p q r s : Bool) → (p || q || r || s) ≡ true → q ≡ false → r ≡ false → (p ≡ true) ⊎ (s ≡ true)
    on_side x q r s h e f = grind (arith, nat_tests)

    side : (nat_eq (c % (size.region_columns + 2)) 0 ≡ true)
        ⊎ (nat_eq (c % (size.region_columns + 2)) (size.region_columns + 1) ≡ true) →
        (c % (size.region_columns + 2) ≡ 0) ⊎ (c % (size.region_columns + 2) ≡ size.region_columns + 1)
    side (inl e) = inl (eqb-true _ _ e)
    side (inr e) = inr (eqb-true _ _ e)

    by_border : (b : Bool) → is_border size row c ≡ b →
        (is_dark_bit dark c || is_dark_bit outer c) ≡ drawn_colour size look row c
    by_border true e =
        alone (is_dark_bit dark c) (is_dark_bit outer c)
        (border c (side (on_side (nat_eq (c % (size.region_columns + 2)) 0) _ _ _ e (ne_eqb _ _ bottom)
        (ne_eqb _ _ top))))
        ∙ is ∙ ap (λ (b : Bool). b && border_is_dark size row c) e ∙ sym (on_border size look row c e)
    by_border false e =
        let from = off_border size row c entry lr lc e in
        let q : ℕ = mapping_line size.region_columns c in
        cc (is, e, from.1.there, mapped q from.1.inside, cells q from.1.inside, off_borders size look row c e)

-- When one more row is put, the rows above the next are drawn.
pub drawn_more : (size : SizeEntry) (look : ℕ → ℕ → Bool) (row cells end : ℕ) (old new : SymbolView) →
    cells < 2 ^ 128 → IsDrawn size look row old → row < size.rows → new.size ≡ old.size → IsSymbol new →
    ((c : ℕ) → c < size.columns → is_dark_bit (whole_row cells end) c ≡ drawn_colour size look row c) →
    ((c : ℕ) → c < 128 → c < old.size.columns → module_at new row c ≡ is_dark_bit cells c) →
    ((c : ℕ) → 128 + c < old.size.columns → module_at new row (128 + c) ≡ is_dark_bit end c) →
    ((r c : ℕ) → r < old.size.rows → c < old.size.columns → (r ≡ row → ⊥) → module_at new r c ≡ module_at old r c) →
    IsDrawn size look (row + 1) new
drawn_more size look row cells end old new low so_far inside same m line start behind others = record {
  same_size = same ∙ so_far.same_size;
  symbol = m;
  colours = λ r c lr lc. by_row r c lr lc (cases_eq r row);
}
  where
    rows : old.size.rows ≡ size.rows
    rows = ap (λ (s : SizeEntry). s.rows) so_far.same_size

    columns : old.size.columns ≡ size.columns
    columns = ap (λ (s : SizeEntry). s.columns) so_far.same_size

    here : (c : ℕ) → c < old.size.columns → is_dark_bit (whole_row cells end) c ≡ module_at new row c
    here =
        whole_cells cells end old.size.columns (module_at new row) low (λ k lk h. sym (start k lk h))
        (λ k h. sym (behind k h))

    by_row : (r c : ℕ) → r < row + 1 → c < size.columns → (r ≡ row) ⊎ (r ≡ row → ⊥) →
        module_at new r c ≡ drawn_colour size look r c
    by_row r c lr lc x = grind (arith, nat_tests, new, here, columns, line, size, others, inside, rows)

-- The same, where the numbers of rows are given by equal ones.
pub drawn_to : {size : SizeEntry} {look : ℕ → ℕ → Bool} {before after row cells : ℕ} (end : ℕ) {old new : SymbolView} →
    cells < 2 ^ 128 → IsDrawn size look before old → before ≡ row → row + 1 ≡ after → row < size.rows →
    new.size ≡ old.size → IsSymbol new →
    ((c : ℕ) → c < size.columns → is_dark_bit (whole_row cells end) c ≡ drawn_colour size look row c) →
    ((c : ℕ) → c < 128 → c < old.size.columns → module_at new row c ≡ is_dark_bit cells c) →
    ((c : ℕ) → 128 + c < old.size.columns → module_at new row (128 + c) ≡ is_dark_bit end c) →
    ((r c : ℕ) → r < old.size.rows → c < old.size.columns → (r ≡ row → ⊥) → module_at new r c ≡ module_at old r c) →
    IsDrawn size look after new
drawn_to {size} {look} {before} {after} {row} {cells} end {old} {new} low so_far eb ea inside same m line start behind
    others =
    rw ea at (drawn_more size look row cells end old new low (subst (λ (i : ℕ). IsDrawn size look i old) eb so_far)
    inside same m line start behind others)

-- The border modules of a row, told by its place inside a region with its border, are those of the row.
pub dark_row : (size : SizeEntry) (region inner dark c : ℕ) → inner < size.region_rows + 2 →
    is_dark_bit dark c ≡ (is_on_edge size.region_rows size.region_columns inner (c % (size.region_columns + 2))
    && edge_is_dark size.region_rows inner (c % (size.region_columns + 2))) →
    is_dark_bit dark c ≡ (is_border size (region * (size.region_rows + 2) + inner) c
    && border_is_dark size (region * (size.region_rows + 2) + inner) c)
dark_row size region inner dark c l is =
    rw (← mod-mul-add region (size.region_rows + 2) inner l) at is

-- The border modules of a row at the top or at the bottom of its regions are all that is drawn there.
pub edge_line : (size : SizeEntry) (look : ℕ → ℕ → Bool) (region inner row dark : ℕ) → inner < size.region_rows + 2 →
    ((inner ≡ size.region_rows + 1) ⊎ (inner ≡ 0)) → row ≡ region * (size.region_rows + 2) + inner →
    ((c : ℕ) → c < size.columns → is_dark_bit dark c ≡ (is_on_edge size.region_rows size.region_columns inner
    (c % (size.region_columns + 2)) && edge_is_dark size.region_rows inner (c % (size.region_columns + 2)))) →
    (c : ℕ) → c < size.columns → is_dark_bit dark c ≡ drawn_colour size look row c
edge_line size look region inner row dark l at er is c lc = grind (arith, nat_tests, edge_row, dark_row, mod-mul-add)

-- ---- the whole symbol

-- A symbol that is drawn from a mapping matrix with the fixed square, in which the codewords' bits lie at their places,
-- is the one in which these are laid.
pub laid_by : (words : WordsView) (modules : SymbolView) (look : ℕ → ℕ → Bool) → IsWords words →
    modules.size ≡ words.size → IsSymbol modules →
    ((r c : ℕ) → r < modules.size.rows → c < modules.size.columns →
    module_at modules r c ≡ drawn_colour modules.size look r c) →
    ((w b : ℕ) (cell : Cell) → IsPlace (mapping_rows modules.size) (mapping_columns modules.size) w b cell →
    look cell.row cell.column ≡ bit_of words.list w b) →
    ((r c : ℕ) → r < mapping_rows modules.size → c < mapping_columns modules.size →
    is_fixed (mapping_rows modules.size) (mapping_columns modules.size) r c ≡ true → look r c ≡ fixed_is_dark r c) →
    IsLaid words modules
laid_by words modules look h same m drawn bits fixed = record {
  holds = record {
    symbol = m;
    codewords = h;
    same_size = sym same;
    bits = λ w b cell p.
        let law =
        once_at_sides (mapping_rows modules.size) (mapping_columns modules.size) (codeword_count modules.size)
        (placed_size modules.size m.size) in
        let inside = law.inside w b cell p in
        cell_is cell.row cell.column inside.0 inside.1 ∙ bits w b cell p;
  };
  border = no_faults modules (λ r c lr lc b. drawn r c lr lc ∙ on_border modules.size look r c b);
  fixed_square = λ r c lr lc f. cell_is r c lr lc ∙ fixed r c lr lc f;
}
  where
    size : SizeEntry
    size = modules.size

    cell_is : (r c : ℕ) → r < mapping_rows modules.size → c < mapping_columns modules.size →
        mapped_cell modules r c ≡ look r c
    cell_is r c lr lc =
        let facts = size_facts modules.size m.size in
        drawn (symbol_line modules.size.region_rows r) (symbol_line modules.size.region_columns c)
        (row_inside modules.size r m.size lr) (column_inside modules.size c m.size lc)
        ∙ off_borders modules.size look (symbol_line modules.size.region_rows r)
        (symbol_line modules.size.region_columns c) (off_edge modules.size r c facts.least_rows facts.least_columns)
        ∙ ap (λ (i : ℕ). look i (mapping_line modules.size.region_columns (symbol_line modules.size.region_columns c)))
        (mapping_line-symbol_line modules.size.region_rows r facts.least_rows)
        ∙ ap (look r) (mapping_line-symbol_line modules.size.region_columns c facts.least_columns)

-- The same, where sizes and codewords are given by equal ones.
pub laid_as : (words : WordsView) (modules : SymbolView) (s : SizeEntry) (list : List ℕ) (look : ℕ → ℕ → Bool) →
    IsWords words → s ≡ words.size → list ≡ words.list → modules.size ≡ s → IsSymbol modules →
    ((r c : ℕ) → r < s.rows → c < s.columns → module_at modules r c ≡ drawn_colour s look r c) →
    ((w b : ℕ) (cell : Cell) → IsPlace (mapping_rows s) (mapping_columns s) w b cell →
    look cell.row cell.column ≡ bit_of list w b) →
    ((r c : ℕ) → r < mapping_rows s → c < mapping_columns s →
    is_fixed (mapping_rows s) (mapping_columns s) r c ≡ true → look r c ≡ fixed_is_dark r c) →
    IsLaid words modules
laid_as words modules s list look h es el em m drawn bits fixed =
    laid_by words modules look h (em ∙ es) m
    (rw (← em) at drawn)
    (rw (← em, el) at bits)
    (rw (← em) at fixed)

-- Bits stay at their places when the fixed square is put, since it holds none.
pub bits_kept : (R C : ℕ) (olds news : ℕ → ℕ → Bool) (list : List ℕ) → EachCellOnce R C →
    ((r c : ℕ) → r < R → c < C → is_fixed R C r c ≡ false → news r c ≡ olds r c) →
    ((w b : ℕ) (cell : Cell) → IsPlace R C w b cell → olds cell.row cell.column ≡ bit_of list w b) →
    (w b : ℕ) (cell : Cell) → IsPlace R C w b cell → news cell.row cell.column ≡ bit_of list w b
bits_kept R C olds news list law free bits w b cell p =
    by (is_fixed R C cell.row cell.column) refl
  where
    by : (t : Bool) → is_fixed R C cell.row cell.column ≡ t → news cell.row cell.column ≡ bit_of list w b
    by true e = absurd (none_fixed R C cell.row cell.column w b law e p)
    by false e =
        let inside = law.inside w b cell p in
        free cell.row cell.column inside.0 inside.1 e ∙ bits w b cell p

-- ---- the fixed square

-- The cells that are made dark are the dark ones of the fixed square.
pub fixed_cells : (n r c : ℕ) → 6 ≤ n → r < n → c < n → is_fixed n n r c ≡ true →
    ((nat_eq (r + 2) n && nat_eq (c + 4) (n + 2)) || (nat_eq (r + 2) (n + 1) && nat_eq (c + 4) (n + 3))) ≡
    fixed_is_dark r c
fixed_cells n r c some lr lc h =
    let both = and_parts _ (nat_le n (c + 2)) h in
    let rows = and_parts _ (nat_le n (r + 2)) both.0 in
    let a = leb-true n (r + 2) rows.1 in
    let b = leb-true n (c + 2) both.1 in
    by (nat_eq (r + 2) n) (nat_eq (c + 4) (n + 2)) (nat_eq r c) refl refl refl a b
  where
    by : (t u v : Bool) → nat_eq (r + 2) n ≡ t → nat_eq (c + 4) (n + 2) ≡ u → nat_eq r c ≡ v → n ≤ r + 2 → n ≤ c + 2 →
        ((t && u) || (nat_eq (r + 2) (n + 1) && nat_eq (c + 4) (n + 3))) ≡ v
    by true true v e f g a b =
        sym (sym g ∙ eq-eqb r c (omega (arith, eqb-true (r + 2) n e, eqb-true (c + 4) (n + 2) f)))
    by true false v e f g a b =
        let x = eqb-true (r + 2) n e in
        let y = eqb-false (c + 4) (n + 2) f in
        ap (λ (p : Bool). p && nat_eq (c + 4) (n + 3)) (ne_eqb (r + 2) (n + 1) (λ z. omega (arith, z, x)))
        ∙ sym (sym g ∙ ne_eqb r c (λ z. omega (arith, z, x, y)))
    by false true v e f g a b =
        let x = eqb-false (r + 2) n e in
        let y = eqb-true (c + 4) (n + 2) f in
        ap (λ (p : Bool). nat_eq (r + 2) (n + 1) && p) (ne_eqb (c + 4) (n + 3) (λ z. omega (arith, z, y)))
        ∙ none (nat_eq (r + 2) (n + 1))
        ∙ sym (sym g ∙ ne_eqb r c (λ z. omega (arith, z, x, y)))
      where
        none : (p : Bool) → (p && false) ≡ false
        none true = refl
        none false = refl
    by false false v e f g a b =
        let x = eqb-false (r + 2) n e in
        let y = eqb-false (c + 4) (n + 2) f in
        ap (λ (p : Bool). p && nat_eq (c + 4) (n + 3)) (eq-eqb (r + 2) (n + 1) (omega (arith, x, a, lr)))
        ∙ eq-eqb (c + 4) (n + 3) (omega (arith, y, b, lc))
        ∙ sym (sym g ∙ eq-eqb r c (omega (arith, x, y, a, b, lr, lc)))

-- A cell outside the fixed square isn't made dark.
pub free_cells : (n r c : ℕ) → 6 ≤ n → r < n → c < n → n % 4 ≡ 2 → is_fixed n n r c ≡ false →
    ((nat_eq (r + 2) n && nat_eq (c + 4) (n + 2)) || (nat_eq (r + 2) (n + 1) && nat_eq (c + 4) (n + 3))) ≡ false
free_cells n r c some lr lc two h = grind (arith, nat_tests, cases_lt, nat_tests, ne_eqb, true≢false, eq-eqb, le-leb)

-- Where the dark cells of the fixed square are made dark, this is what is dark.
pub put_twice : (width n : ℕ) (olds mids news : List ℕ) (r c : ℕ) → n + 1 < length olds → n + 3 < width →
    mids ≡ set olds n (bit_or (get_or olds n 0) (1 * 2 ^ (n + 2) % 2 ^ width)) →
    news ≡ set mids (n + 1) (bit_or (get_or mids (n + 1) 0) (1 * 2 ^ (n + 3) % 2 ^ width)) →
    look_in news (r + 2) (c + 4) ≡ (look_in olds (r + 2) (c + 4)
    || ((nat_eq (r + 2) n && nat_eq (c + 4) (n + 2)) || (nat_eq (r + 2) (n + 1) && nat_eq (c + 4) (n + 3))))
put_twice width n olds mids news r c rows columns first second =
    let count = ap length first ∙ length-set olds n _ in
    ap (λ (xs : List ℕ). look_in xs (r + 2) (c + 4)) second
    ∙ bit_put width mids (n + 1) (n + 3) 1 (r + 2) (c + 4) (omega (arith, rows, count)) columns (omega arith)
    ∙ ap (λ (b : Bool). b || (nat_eq (r + 2) (n + 1) && nat_eq (c + 4) (n + 3) && true))
    (ap (λ (xs : List ℕ). look_in xs (r + 2) (c + 4)) first
    ∙ bit_put width olds n (n + 2) 1 (r + 2) (c + 4) (omega (arith, rows)) (omega (arith, columns)) (omega arith))
    ∙ regroup (look_in olds (r + 2) (c + 4)) (nat_eq (r + 2) n) (nat_eq (c + 4) (n + 2)) (nat_eq (r + 2) (n + 1))
    (nat_eq (c + 4) (n + 3))
  where
    regroup : (a p q x y : Bool) → ((a || (p && q && true)) || (x && y && true)) ≡ (a || ((p && q) || (x && y)))
    regroup x p q y z = grind (arith, nat_tests)
