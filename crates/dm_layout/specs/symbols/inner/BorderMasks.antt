-- The border cells of the rows of a symbol as bits, as the code keeps them.
use Rattle.std.specs.Prelude.{◌≡◌, ℕ, ◌+◌, ◌*◌, ◌%◌, ◌^◌, ◌<◌, true, ◌&&◌, ◌||◌, nat_eq, nat_lt, count_by}
use Rattle.std.specs.Prelude.{sum_by, Option, bit_and, bit_xor}
use Rattle.std.specs.Int.{bit_not, w128}
use Rattle.std.specs.List.{range_with_len}
use Rattle.dm_place.specs.Border.{is_on_edge, edge_is_dark}
use Rattle.dm_layout.specs.symbols.Symbols.{SymbolView, is_dark_bit}
use Rattle.dm_layout.specs.symbols.SureFaults.{is_sure_fault}
use Rattle.dm_layout.specs.symbols.Sizes.{SizeEntry, IsSize}

-- Masks of a row of a symbol: `left` has the left columns of the regions with their borders, `both` their left and
-- right ones, `even` the even columns of the symbol and `all` all of them. `last` is the last row of a region with its
-- border, counted from 0.
pub record AreBorders (size : SizeEntry) (last left both even all : ℕ) : Type 0 where
  pub entry : IsSize size
  pub last_row : last ≡ size.region_rows + 1
  pub left_columns : (c : ℕ) → c < size.columns → is_dark_bit left c ≡ nat_eq (c % (size.region_columns + 2)) 0
  pub both_columns : (c : ℕ) → c < size.columns →
      is_dark_bit both c ≡
      (nat_eq (c % (size.region_columns + 2)) 0 || nat_eq (c % (size.region_columns + 2)) (size.region_columns + 1))
  pub even_columns : (c : ℕ) → c < size.columns → is_dark_bit even c ≡ nat_eq (c % 2) 0
  pub all_columns : (c : ℕ) → c < size.columns → is_dark_bit all c ≡ true
  pub left_width : left < 2 ^ size.columns
  pub both_width : both < 2 ^ size.columns
  pub even_width : even < 2 ^ size.columns
  pub all_width : all < 2 ^ size.columns

-- The row `left` is dark in the left columns of the first a regions with their borders, and `both` in their left and
-- right columns; the columns of such a region are 0 to `last`.
pub record AreRuled (last a left both : ℕ) : Type 0 where
  pub left_columns : (c : ℕ) → is_dark_bit left c ≡ nat_lt c (a * (last + 1)) && nat_eq (c % (last + 1)) 0
  pub both_columns : (c : ℕ) → is_dark_bit both c ≡ nat_lt c (a * (last + 1))
      && (nat_eq (c % (last + 1)) 0 || nat_eq (c % (last + 1)) last)
  pub left_width : left < 2 ^ (a * (last + 1))
  pub both_width : both < 2 ^ (a * (last + 1))

-- Among the columns of the symbol a mask has the border modules of a row that is the row `inner`, 0 to region_rows + 1,
-- of its regions with their borders.
abbrev pub AreBorderCells : SizeEntry → ℕ → ℕ → Type 0
AreBorderCells size inner x = (c : ℕ) → c < size.columns →
    is_dark_bit x c ≡ is_on_edge size.region_rows size.region_columns inner (c % (size.region_columns + 2))

-- Among the columns of the symbol a mask has those border modules of such a row that are to be dark.
abbrev pub AreDarkCells : SizeEntry → ℕ → ℕ → Type 0
AreDarkCells size inner x = (c : ℕ) → c < size.columns →
    is_dark_bit x c ≡ (is_on_edge size.region_rows size.region_columns inner (c % (size.region_columns + 2))
    && edge_is_dark size.region_rows inner (c % (size.region_columns + 2)))

-- How many sure border faults there are in so many rows of a symbol, of which this is the first.
abbrev pub sure_faults_in : SymbolView → Option SymbolView → ℕ → ℕ → ℕ
sure_faults_in modules doubtful first rows =
    sum_by (λ r. count_by (is_sure_fault modules doubtful r) (range_with_len 0 modules.size.columns))
    (range_with_len first rows)

-- Of the modules of a part of a row, of at most 128 columns, those in a mask that aren't as `dark` says and aren't
-- doubtful.
abbrev pub sure_part : ℕ → ℕ → ℕ → ℕ → ℕ
sure_part row dark mask doubtful = bit_and (bit_and (bit_xor row dark) mask) (bit_not w128 doubtful)
