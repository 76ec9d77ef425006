-- How a symbol is drawn from its mapping matrix, of which `look` says what cells are dark.
use Rattle.std.specs.Prelude.{◌≡◌, ℕ, ◌+◌, ◌-◌, ◌*◌, ◌^◌, ◌<◌, Bool, List, get_or, if◌then◌else◌}
use Rattle.dm_layout.specs.symbols.Border.{is_border, border_is_dark}
use Rattle.dm_layout.specs.symbols.Symbols.{SymbolView, IsSymbol, module_at}
use Rattle.dm_layout.specs.symbols.Sizes.{SizeEntry}
use Rattle.dm_layout.specs.symbols.inner.Drawing.{mapping_line}

-- A border module has its colour, and any other that of the cell of the mapping matrix that lies there.
abbrev pub drawn_colour : SizeEntry → (ℕ → ℕ → Bool) → ℕ → ℕ → Bool
drawn_colour size look row column =
    if is_border size row column then border_is_dark size row column
    else look (mapping_line size.region_rows row) (mapping_line size.region_columns column)

-- The first rows of a symbol are drawn.
pub record IsDrawn (size : SizeEntry) (look : ℕ → ℕ → Bool) (rows : ℕ) (modules : SymbolView) : Type 0 where
  pub same_size : modules.size ≡ size
  pub symbol : IsSymbol modules
  pub colours : (r c : ℕ) → r < rows → c < size.columns → module_at modules r c ≡ drawn_colour size look r c

-- For each of so many regions of d columns side by side but the last, a row that is dark left of its right border.
abbrev pub ArePrefixes : ℕ → ℕ → List ℕ → Type 0
ArePrefixes d across prefixes =
    (region : ℕ) → region + 1 < across → get_or prefixes region 0 ≡ 2 ^ (region * (d + 2) + 1 + d) - 1
