-- The modules of a symbol that are drawn from the cells of a mapping matrix.
use Rattle.dm_layout.proofs.Names.{arith, nat_tests, ◌≡◌, ℕ, Bool, true, false, List, ◌∙◌, ap, symbol_line, SizeEntry}
use Rattle.dm_layout.proofs.Names.{IsSize, is_border, border_is_dark, mapping_line, inner_colour, drawn_colour}
use Rattle.dm_layout.proofs.symbols.TableEntries.{size_facts}
use Rattle.dm_layout.proofs.symbols.SymbolLines.{no_border, mapping_line-symbol_line}

-- ---- the colour of one module

-- A module of a border has its colour.
pub on_border : (size : SizeEntry) (mapping : List Bool) (r c : ℕ) → is_border size r c ≡ true →
    drawn_colour size mapping r c ≡ border_is_dark size r c
on_border size mapping r c h = grind (arith, nat_tests)

-- Any other module has the colour of a cell of the mapping matrix.
pub in_mapping : (size : SizeEntry) (mapping : List Bool) (r c : ℕ) → is_border size r c ≡ false →
    drawn_colour size mapping r c ≡ inner_colour size mapping (mapping_line size.region_rows r)
    (mapping_line size.region_columns c)
in_mapping size mapping r c h = grind (arith, nat_tests)

-- The module at which a cell of the mapping matrix lies has the colour of that cell.
pub at_cell : (size : SizeEntry) (mapping : List Bool) (r c : ℕ) → IsSize size →
    drawn_colour size mapping (symbol_line size.region_rows r) (symbol_line size.region_columns c) ≡
    inner_colour size mapping r c
at_cell size mapping r c entry =
    let facts = size_facts size entry in
    in_mapping size mapping (symbol_line size.region_rows r) (symbol_line size.region_columns c)
    (no_border size r c entry)
    ∙ ap (λ i. inner_colour size mapping i (mapping_line size.region_columns (symbol_line size.region_columns c)))
    (mapping_line-symbol_line size.region_rows r facts.least_rows)
    ∙ ap (inner_colour size mapping r) (mapping_line-symbol_line size.region_columns c facts.least_columns)
