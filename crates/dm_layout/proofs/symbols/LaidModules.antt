-- The modules in which codewords are laid: what is drawn from the cells that hold them, and no others.
use Rattle.dm_layout.proofs.Names.{◌≡◌, ℕ, ◌+◌, ◌*◌, ◌/◌, ◌%◌, ◌<◌, Bool, true, false, nat_lt, List, map, refl, sym}
use Rattle.dm_layout.proofs.Names.{◌∙◌, ap, arith, if◌then◌else◌, range_with_len, ltb-true, ltb-false, div-mul-add}
use Rattle.dm_layout.proofs.Names.{mod-mul-add, get_or-map-range_with_len, Cell, is_fixed, fixed_is_dark, symbol_line}
use Rattle.dm_layout.proofs.Names.{At, IsPlace, EachCellOnce, HoldsBits, bit_of, once_at_sides, count_at_sides}
use Rattle.dm_layout.proofs.Names.{none_fixed, some_bit, words_of, holds_words_of, SizeEntry, IsSize, mapping_rows}
use Rattle.dm_layout.proofs.Names.{mapping_columns, codeword_count, SymbolView, IsSymbol, module_at, rows_by, WordsView}
use Rattle.dm_layout.proofs.Names.{IsWords, is_border, border_is_dark, mapped_cell, mapping_line, inner_colour}
use Rattle.dm_layout.proofs.Names.{drawn_colour}
use Rattle.dm_place.specs.Placement.{OnePlace}
use Rattle.dm_place.specs.Holding.{AreWords, look_at}
use Rattle.dm_place.proofs.Exported.{length-words_of, words_are_bytes, one_list}
use Rattle.dm_layout.specs.symbols.Holding.{Holds, IsLaid}
use Rattle.dm_layout.proofs.symbols.Matrices.{placed_size}
use Rattle.dm_layout.proofs.symbols.ModulesLemmas.{modules_by, module_by, same_modules, place_below}
use Rattle.dm_layout.proofs.symbols.SymbolLines.{row_inside, column_inside, off_border}
use Rattle.dm_layout.proofs.symbols.NoFaults.{no_faults, bordered_of_no_faults}
use Rattle.dm_layout.proofs.symbols.Drawn.{on_border, at_cell}

-- Each cell of the mapping matrix of a size holds one bit, or is one of the fixed square.
once : (size : SizeEntry) → IsSize size → EachCellOnce (mapping_rows size) (mapping_columns size)
once size entry =
    once_at_sides (mapping_rows size) (mapping_columns size) (codeword_count size) (placed_size size entry)

-- ---- what modules hold

-- The codewords that modules hold have the bits of their mapping matrix.
are_words : (size : SizeEntry) (words : WordsView) → IsSize size → IsWords words → words.size ≡ size →
    AreWords (mapping_rows size) (mapping_columns size) words.list
are_words size words entry h same = record {
  count =
      h.count ∙ ap codeword_count same ∙ sym (count_at_sides (mapping_rows size) (mapping_columns size)
      (codeword_count size) (placed_size size entry));
  bytes = h.bytes;
}

-- Modules hold only one list of codewords.
pub one_held : (modules : SymbolView) (v w : WordsView) → Holds modules v → Holds modules w → v ≡ w
one_held modules v w hv hw =
    joined v.size w.size v.list w.list (hv.same_size ∙ sym hw.same_size)
    (one_list (mapping_rows modules.size) (mapping_columns modules.size) (mapped_cell modules) v.list w.list
    (are_words modules.size v hv.symbol.size hv.codewords hv.same_size)
    (are_words modules.size w hw.symbol.size hw.codewords hw.same_size) hv.bits hw.bits)
  where
    pair : SizeEntry → List ℕ → WordsView
    pair size list = record { size = size; list = list }

    joined : (s t : SizeEntry) (xs ys : List ℕ) → s ≡ t → xs ≡ ys → pair s xs ≡ pair t ys
    joined s t xs ys p q = cc

-- All modules hold some codewords.
pub some_held : (modules : SymbolView) → IsSymbol modules → (words : WordsView) × Holds modules words
some_held modules h =
    let rows = mapping_rows modules.size in
    let columns = mapping_columns modules.size in
    let list = words_of (mapped_cell modules) rows columns in
    let count =
    length-words_of (mapped_cell modules) rows columns
    ∙ count_at_sides rows columns (codeword_count modules.size) (placed_size modules.size h.size) in (
      record { size = modules.size; list = list },
      record {
        symbol = h;
        codewords = record { size = h.size; count = count; bytes = words_are_bytes (mapped_cell modules) rows columns };
        same_size = refl;
        bits = holds_words_of (mapped_cell modules) rows columns;
      },
    )

-- ---- what is drawn

-- These modules have the colours that are drawn from a mapping matrix.
abbrev pub IsDrawn : List Bool → SymbolView → Type 0
IsDrawn mapping modules = (r c : ℕ) → r < modules.size.rows → c < modules.size.columns →
    module_at modules r c ≡ drawn_colour modules.size mapping r c

-- Modules that are drawn from the cells that hold codewords are those in which they are laid.
pub laid : (words : WordsView) (modules : SymbolView) (mapping : List Bool) → IsWords words →
    words.size ≡ modules.size → IsSymbol modules → IsDrawn mapping modules →
    HoldsBits (mapping_rows modules.size) (mapping_columns modules.size)
    (look_at mapping (mapping_columns modules.size)) words.list → IsLaid words modules
laid words modules mapping h same m drawn holds = record {
  holds = record {
    symbol = m;
    codewords = h;
    same_size = same;
    bits = λ word bit cell p.
        let inside = (once modules.size m.size).inside word bit cell p in
        cell_is cell.row cell.column inside.0 inside.1
        ∙ free word bit cell p (is_fixed (mapping_rows modules.size) (mapping_columns modules.size) cell.row
        cell.column) refl
        ∙ holds word bit cell p;
  };
  border = no_faults modules (λ r c lr lc b. drawn r c lr lc ∙ on_border modules.size mapping r c b);
  fixed_square =
      λ r c lr lc f. rw (cell_is, f);
}
  where
    cell_is : (r c : ℕ) → r < mapping_rows modules.size → c < mapping_columns modules.size →
        mapped_cell modules r c ≡ inner_colour modules.size mapping r c
    cell_is r c lr lc =
        drawn (symbol_line modules.size.region_rows r) (symbol_line modules.size.region_columns c)
        (row_inside modules.size r m.size lr) (column_inside modules.size c m.size lc)
        ∙ at_cell modules.size mapping r c m.size

    free : (word bit : ℕ) (cell : Cell) → IsPlace (mapping_rows modules.size) (mapping_columns modules.size) word bit
        cell →
        (t : Bool) → is_fixed (mapping_rows modules.size) (mapping_columns modules.size) cell.row cell.column ≡ t →
        inner_colour modules.size mapping cell.row cell.column ≡
        look_at mapping (mapping_columns modules.size) cell.row cell.column
    free word bit cell p true t =
        absurd (none_fixed (mapping_rows modules.size) (mapping_columns modules.size) cell.row cell.column word bit
        (once modules.size m.size) t p)
    free word bit cell p false t =
        ap (λ (b : Bool). if b then fixed_is_dark cell.row cell.column else look_at mapping
        (mapping_columns modules.size) cell.row cell.column) t

-- The same, where sizes and codewords are given by equal ones.
pub laid_by : (words : WordsView) (modules : SymbolView) (s : SizeEntry) (rows columns : ℕ) (list : List ℕ)
    (mapping : List Bool) → IsWords words → s ≡ words.size → modules.size ≡ s → IsSymbol modules →
    rows ≡ mapping_rows s → columns ≡ mapping_columns s → list ≡ words.list →
    HoldsBits rows columns (look_at mapping columns) list →
    ((r c : ℕ) → r < s.rows → c < s.columns → module_at modules r c ≡ drawn_colour s mapping r c) → IsLaid words modules
laid_by words modules s rows columns list mapping h es em m er ec el holds drawn =
    laid words modules mapping h (sym (em ∙ es)) m
    (rw (← em) at drawn)
    (rw (er, ec, ← em, el) at holds)

-- ---- no other modules

-- Codewords are laid in the modules of one symbol only.
pub one_laid : (words : WordsView) (m n : SymbolView) → IsLaid words m → IsLaid words n → m ≡ n
one_laid words m n hm hn = same_modules m n hm.holds.symbol hn.holds.symbol (sym e) by_border
  where
    s : SizeEntry
    s = m.size

    e : n.size ≡ m.size
    e = sym hn.holds.same_size ∙ hm.holds.same_size

    n_border : (r c : ℕ) → r < m.size.rows → c < m.size.columns → is_border m.size r c ≡ true →
        module_at n r c ≡ border_is_dark m.size r c
    n_border =
        rw e at (bordered_of_no_faults n hn.border)

    n_fixed : (r c : ℕ) → r < mapping_rows m.size → c < mapping_columns m.size →
        is_fixed (mapping_rows m.size) (mapping_columns m.size) r c ≡ true →
        module_at n (symbol_line m.size.region_rows r) (symbol_line m.size.region_columns c) ≡ fixed_is_dark r c
    n_fixed =
        rw e at hn.fixed_square

    n_bits : HoldsBits (mapping_rows m.size) (mapping_columns m.size)
        (λ r c. module_at n (symbol_line m.size.region_rows r) (symbol_line m.size.region_columns c)) words.list
    n_bits =
        rw e at hn.holds.bits

    in_matrix : (r c : ℕ) → r < mapping_rows m.size → c < mapping_columns m.size → (f : Bool) →
        is_fixed (mapping_rows m.size) (mapping_columns m.size) r c ≡ f →
        mapped_cell m r c ≡ module_at n (symbol_line m.size.region_rows r) (symbol_line m.size.region_columns c)
    in_matrix r c lr lc true f = hm.fixed_square r c lr lc f ∙ sym (n_fixed r c lr lc f)
    in_matrix r c lr lc false f =
        let one : OnePlace (mapping_rows m.size) (mapping_columns m.size) (At r c) =
        some_bit (mapping_rows m.size) (mapping_columns m.size) r c (once m.size hm.holds.symbol.size) lr lc f in
        hm.holds.bits one.0 one.1 (At r c) one.2 ∙ sym (n_bits one.0 one.1 (At r c) one.2)

    by_test : (r c : ℕ) → r < m.size.rows → c < m.size.columns → (b : Bool) → is_border m.size r c ≡ b →
        module_at m r c ≡ module_at n r c
    by_test r c lr lc true b = bordered_of_no_faults m hm.border r c lr lc b ∙ sym (n_border r c lr lc b)
    by_test r c lr lc false b =
        let from = off_border m.size r c hm.holds.symbol.size lr lc b in
        let here =
        in_matrix (mapping_line m.size.region_rows r) (mapping_line m.size.region_columns c) from.0.inside
        from.1.inside
        (is_fixed (mapping_rows m.size) (mapping_columns m.size) (mapping_line m.size.region_rows r)
        (mapping_line m.size.region_columns c)) refl in
        cc (from.0.there, from.1.there, here)

    by_border : (r c : ℕ) → r < m.size.rows → c < m.size.columns → module_at m r c ≡ module_at n r c
    by_border r c lr lc = by_test r c lr lc (is_border m.size r c) refl

-- ---- some modules

-- The colour that a cell of the mapping matrix has for codewords, by whether it lies in the matrix and in the fixed
-- square.
abbrev colour_by : (rows columns : ℕ) → EachCellOnce rows columns → List ℕ → (r c : ℕ) → (a : Bool) →
    nat_lt r rows ≡ a → (b : Bool) → nat_lt c columns ≡ b → (f : Bool) → is_fixed rows columns r c ≡ f → Bool
colour_by rows columns law words r c true lr true lc false f =
    let one = some_bit rows columns r c law (ltb-true r rows lr) (ltb-true c columns lc) f in
    bit_of words one.0 one.1
colour_by rows columns law words r c true lr true lc true f = false
colour_by rows columns law words r c true lr false lc f g = false
colour_by rows columns law words r c false lr b lc f g = false

-- The cell of a place has the colour of its bit.
colour_at_place : (rows columns : ℕ) (law : EachCellOnce rows columns) (words : List ℕ) (r c : ℕ) (a : Bool)
    (lr : nat_lt r rows ≡ a) (b : Bool) (lc : nat_lt c columns ≡ b) (f : Bool) (g : is_fixed rows columns r c ≡ f) →
    (word bit : ℕ) → IsPlace rows columns word bit (At r c) →
    colour_by rows columns law words r c a lr b lc f g ≡ bit_of words word bit
colour_at_place rows columns law words r c true lr true lc false g word bit p =
    let one = some_bit rows columns r c law (ltb-true r rows lr) (ltb-true c columns lc) g in
    let same = one.3 word bit p in
    ap (λ w. bit_of words w one.1) (sym same.0) ∙ ap (bit_of words word) (sym same.1)
colour_at_place rows columns law words r c true lr true lc true g word bit p =
    absurd (none_fixed rows columns r c word bit law g p)
colour_at_place rows columns law words r c true lr false lc f g word bit p =
    let inside = law.inside word bit (At r c) p in
    absurd (omega (arith, inside.1, ltb-false c columns lc))
colour_at_place rows columns law words r c false lr b lc f g word bit p =
    let inside = law.inside word bit (At r c) p in
    absurd (omega (arith, inside.0, ltb-false r rows lr))

-- The colour that a cell has for codewords.
abbrev cell_colour : (rows columns : ℕ) → EachCellOnce rows columns → List ℕ → ℕ → ℕ → Bool
cell_colour rows columns law words r c =
    colour_by rows columns law words r c (nat_lt r rows) refl (nat_lt c columns) refl (is_fixed rows columns r c) refl

-- Codewords are laid in some modules.
pub some_laid : (words : WordsView) → IsWords words → (modules : SymbolView) × IsLaid words modules
some_laid words h =
    let size = words.size in
    let rows = mapping_rows size in
    let columns = mapping_columns size in
    let law = once size h.size in
    let colour : ℕ → ℕ → Bool = cell_colour rows columns law words.list in
    let f : ℕ → Bool = λ k. colour (k / columns) (k % columns) in
    let mapping : List Bool = map f (range_with_len 0 (rows * columns)) in
    let drawn : SymbolView =
    record { size = size; rows = rows_by size.rows size.columns (drawn_colour size mapping) } in (
      drawn,
      laid words drawn mapping h refl (modules_by size (drawn_colour size mapping) h.size)
          (module_by size.rows size.columns (drawn_colour size mapping))
          (λ word bit cell p.
          let inside = law.inside word bit cell p in
          let k : ℕ = cell.row * columns + cell.column in
          get_or-map-range_with_len f 0 (rows * columns) k k false
          (place_below rows columns cell.row cell.column inside.0 inside.1) (omega arith)
          ∙ ap (λ r. colour r (k % columns)) (div-mul-add cell.row columns cell.column inside.1)
          ∙ ap (colour cell.row) (mod-mul-add cell.row columns cell.column inside.1)
          ∙ colour_at_place rows columns law words.list cell.row cell.column (nat_lt cell.row rows) refl
          (nat_lt cell.column columns) refl (is_fixed rows columns cell.row cell.column) refl word bit p),
    )
