-- A symbol whose rows are kept as numbers.
use Rattle.dm_layout.proofs.Names.{nat_tests, ◌≡◌, ◌≢◌, ◌⊎◌, set, get_or-set_same, get_or-set_other, ℕ, zero, suc, ◌+◌}
use Rattle.dm_layout.proofs.Names.{◌-◌, ◌^◌, ◌<◌, ◌≤◌, Bool, false, List, length, get_or, replicate, ◌∙◌, ap, arith}
use Rattle.dm_layout.proofs.Names.{nat_eq, cases_lt, lt-ltb, le-ltb, bit_at-zero, bit_at_cat_low, bit_at_cat_high}
use Rattle.dm_layout.proofs.Names.{IsSymbol, module_at, is_dark_bit, SizeEntry, IsSize, kept_symbol, whole_row}
use Rattle.dm_layout.specs.symbols.inner.Keeping.{kept_cell}
use Rattle.dm_layout.proofs.symbols.ModulesLemmas.{module_by, modules_by}

-- What is kept are well-formed modules.
pub modules_of_kept : (size : SizeEntry) (rows ends : List ℕ) → IsSize size → IsSymbol (kept_symbol size rows ends)
modules_of_kept size rows ends entry = modules_by size (kept_cell rows ends) entry

-- A module before column 128 is a bit of the first number of its row.
pub first_cell : (rows ends : List ℕ) (r c : ℕ) → c < 128 → kept_cell rows ends r c ≡ is_dark_bit (get_or rows r 0) c
first_cell rows ends r c l = grind (arith, nat_tests, lt-ltb)

-- One from there on is a bit of the second.
pub end_cell : (rows ends : List ℕ) (r c : ℕ) → kept_cell rows ends r (128 + c) ≡ is_dark_bit (get_or ends r 0) c
end_cell rows ends r c =
    rw (le-ltb (128 + c) 128 (omega arith), let e : 128 + c - 128 ≡ c = omega arith in e)

-- A module has the colour of its bit.
pub module_of_kept : (size : SizeEntry) (rows ends : List ℕ) (r c : ℕ) → r < size.rows → c < size.columns →
    module_at (kept_symbol size rows ends) r c ≡ kept_cell rows ends r c
module_of_kept size rows ends r c lr lc = module_by size.rows size.columns (kept_cell rows ends) r c lr lc

-- Among the first 128 modules of a row it is a bit of the first number.
pub module_of_first : (size : SizeEntry) (rows ends : List ℕ) (r c : ℕ) → r < size.rows → c < 128 → c < size.columns →
    module_at (kept_symbol size rows ends) r c ≡ is_dark_bit (get_or rows r 0) c
module_of_first size rows ends r c lr l lc = module_of_kept size rows ends r c lr lc ∙ first_cell rows ends r c l

-- Behind them it is a bit of the second.
pub module_of_end : (size : SizeEntry) (rows ends : List ℕ) (r c : ℕ) → r < size.rows → 128 + c < size.columns →
    module_at (kept_symbol size rows ends) r (128 + c) ≡ is_dark_bit (get_or ends r 0) c
module_of_end size rows ends r c lr lc = module_of_kept size rows ends r (128 + c) lr lc ∙ end_cell rows ends r c

-- In zeros no module is dark.
pub light_kept : (size : SizeEntry) (n r c : ℕ) → r < size.rows → c < size.columns →
    module_at (kept_symbol size (replicate n 0) (replicate n 0)) r c ≡ false
light_kept size n r c lr lc = module_of_kept size (replicate n 0) (replicate n 0) r c lr lc ∙ by_column (cases_lt c 128)
  where
    light_at : (n r c : ℕ) → is_dark_bit (get_or (replicate n 0) r 0) c ≡ false
    light_at zero r c = ap (λ (i : ℕ). nat_eq i 1) (bit_at-zero c)
    light_at (suc n) zero c = ap (λ (i : ℕ). nat_eq i 1) (bit_at-zero c)
    light_at (suc n) (suc r) c = light_at n r c

    by_column : (c < 128) ⊎ (128 ≤ c) → kept_cell (replicate n 0) (replicate n 0) r c ≡ false
    by_column x = grind (arith, nat_tests, first_cell, light_at, end_cell)

-- ---- a row that is put

module _ (size : SizeEntry) (rows ends : List ℕ) (row x y : ℕ) where
  -- It has its own modules, first those of its first number,
  pub put_first : row < size.rows → row < length rows → (c : ℕ) → c < 128 → c < size.columns →
      module_at (kept_symbol size (set rows row x) (set ends row y)) row c ≡ is_dark_bit x c
  put_first lr l c low lc =
      rw (module_of_first, get_or-set_same)

  -- then those of its second.
  pub put_end : row < size.rows → row < length ends → (c : ℕ) → 128 + c < size.columns →
      module_at (kept_symbol size (set rows row x) (set ends row y)) row (128 + c) ≡ is_dark_bit y c
  put_end lr l c lc =
      rw (module_of_end, get_or-set_same)

  -- The others keep theirs.
  pub put_others : (r c : ℕ) → r < size.rows → c < size.columns → r ≢ row →
      module_at (kept_symbol size (set rows row x) (set ends row y)) r c ≡ module_at (kept_symbol size rows ends) r c
  put_others r c lr lc ne =
      rw (module_of_kept, get_or-set_other, get_or-set_other, module_of_kept)

-- ---- rows of two numbers

-- The first 128 cells of a row of two numbers are those of the first.
pub whole_first : (row end c : ℕ) → c < 128 → is_dark_bit (whole_row row end) c ≡ is_dark_bit row c
whole_first row end c l = ap (λ (i : ℕ). nat_eq i 1) (bit_at_cat_low end 128 row c l)

-- Those behind them are those of the second.
pub whole_end : (row end c : ℕ) → row < 2 ^ 128 → 128 ≤ c →
    is_dark_bit (whole_row row end) c ≡ is_dark_bit end (c - 128)
whole_end row end c low l = ap (λ (i : ℕ). nat_eq i 1) (bit_at_cat_high end 128 row c low l)

-- The cells of a row of two numbers are what both numbers say of them.
pub whole_cells : (row end n : ℕ) (f : ℕ → Bool) → row < 2 ^ 128 →
    ((c : ℕ) → c < 128 → c < n → is_dark_bit row c ≡ f c) → ((c : ℕ) → 128 + c < n → is_dark_bit end c ≡ f (128 + c)) →
    (c : ℕ) → c < n → is_dark_bit (whole_row row end) c ≡ f c
whole_cells row end n f low first behind c l = grind (arith, nat_tests, cases_lt, whole_first, whole_end)
