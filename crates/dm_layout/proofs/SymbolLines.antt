-- Rows and columns of the mapping square in the symbol, whose regions have a side of at least 8.
use Rattle.dm_layout.proofs.Names.{◌≡◌, ℕ, ◌<◌, ◌≤◌, false, arith, SizeRow, IsRow, symbol_size, mapping_line}
use Rattle.dm_layout.proofs.symbols.Exported as symbols
use Rattle.dm_layout.specs.Border.{is_border, symbol_line}
use Rattle.dm_layout.proofs.Squares.{is_size, from_square, to_square}

-- Two different lines of the mapping square lie in different lines of the symbol.
pub symbol_line-one : (d r s : ℕ) → 8 ≤ d → symbol_line d r ≡ symbol_line d s → r ≡ s
symbol_line-one d r s h = symbols.symbol_line-one d r s (omega (arith, h))

-- Each line of the mapping square lies within the symbol.
pub lies_inside : (size : SizeRow) (r : ℕ) → IsRow size → r < size.mapping → symbol_line size.region_side r < size.side
lies_inside size r row l =
    symbols.row_inside (symbol_size size) r (is_size size row) (from_square (λ n. r < n) size row l)

-- A line of the symbol holds a line of the mapping square.
pub record ComesFrom (size : SizeRow) (line : ℕ) : Type 0 where
  pub inside : mapping_line size.region_side line < size.mapping
  pub there : symbol_line size.region_side (mapping_line size.region_side line) ≡ line

-- A cell of the mapping square lies on no border of the symbol.
pub no_border : (size : SizeRow) (r c : ℕ) → 8 ≤ size.region_side →
    is_border size (symbol_line size.region_side r) (symbol_line size.region_side c) ≡ false
no_border size r c h = symbols.off_edge (symbol_size size) r c (omega (arith, h)) (omega (arith, h))

-- A cell of the symbol that lies on no border is in a row and a column that hold lines of the mapping square.
pub off_border : (size : SizeRow) (line column : ℕ) → IsRow size → line < size.side → column < size.side →
    is_border size line column ≡ false → ComesFrom size line × ComesFrom size column
off_border size line column row l k h =
    let from = symbols.off_border (symbol_size size) line column (is_size size row) l k h in (
      record {
        inside = to_square (λ n. mapping_line size.region_side line < n) size row from.0.inside;
        there = from.0.there;
      },
      record {
        inside = to_square (λ n. mapping_line size.region_side column < n) size row from.1.inside;
        there = from.1.there;
      },
    )
