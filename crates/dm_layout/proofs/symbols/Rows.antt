-- Rows that are numbers.
use Rattle.dm_layout.proofs.Names.{nat_tests, is_dark_bit, ◌≡◌, ℕ, zero, suc, ◌+◌, ◌*◌, ◌/◌, ◌%◌, ◌^◌, ◌<◌, Bool, true}
use Rattle.dm_layout.proofs.Names.{false, cond, ◌||◌, nat_eq, sym, ◌∙◌, ap, refl, arith, get_or, replicate, bit_at}
use Rattle.dm_layout.proofs.Names.{bit_or, mod-eq_of_lt, div-div-eq-div-mul, pow-add, pow_below, div-add-mod'}
use Rattle.dm_layout.proofs.Names.{bit_at-lt, bit_at-zero, bit_at_cat_low, bit_at_set_same, bit_at_set_other, or_lt}
use Rattle.dm_layout.proofs.Names.{w128, eqb-true, eqb-false, digit, digit-has}
use Rattle.std.specs.Prelude.{max}
use Rattle.std.proofs.lemmas.Nat.Bits.{bit_at_or, same_from_bits_below}

-- The greater of two binary digits is 1 exactly if one of them is.
max_one : (x y : ℕ) → x < 2 → y < 2 → nat_eq (max x y) 1 ≡ (nat_eq x 1 || nat_eq y 1)
max_one x y lx ly = grind (arith, nat_tests)

-- A cell of one row laid over another is dark exactly if it is dark in one of them.
pub or_dark : (a b c : ℕ) → is_dark_bit (bit_or a b) c ≡ (is_dark_bit a c || is_dark_bit b c)
or_dark a b c =
    ap (λ (i : ℕ). nat_eq i 1) (bit_at_or a b c) ∙ max_one (bit_at a c) (bit_at b c) (bit_at-lt a c) (bit_at-lt b c)

-- A power of 2 that fits in 128 bits is kept whole.
pub weight : (c : ℕ) → c < 128 → 1 * 2 ^ c % 2 ^ 128 ≡ 2 ^ c
weight c l = grind (arith, nat_tests, pow_below, mod-eq_of_lt)

-- The prefix of a row has the cells of the row.
pub prefix_cell : (row side c : ℕ) → side < 128 → c < side →
    is_dark_bit (row % (1 * 2 ^ side % 2 ^ 128)) c ≡ is_dark_bit row c
prefix_cell row side c small l =
    cc (weight side small, bit_at_cat_low (row / 2 ^ side) side (row % 2 ^ side) c l, div-add-mod' row (2 ^ side))

-- Bit c of a row that is moved to the right by s columns is bit s + c of the row.
pub moved_bit : (x s c : ℕ) → bit_at (x / 2 ^ s) c ≡ bit_at x (s + c)
moved_bit x s c =
    ap (λ (i : ℕ). i % 2) (div-div-eq-div-mul x (2 ^ s) (2 ^ c) ∙ ap (λ (i : ℕ). x / i) (sym (pow-add 2 s c)))

-- A row of zeros has no dark cell.
pub light_at : (n r c : ℕ) → is_dark_bit (get_or (replicate n 0) r 0) c ≡ false
light_at zero r c = ap (λ (i : ℕ). nat_eq i 1) (bit_at-zero c)
light_at (suc n) zero c = ap (λ (i : ℕ). nat_eq i 1) (bit_at-zero c)
light_at (suc n) (suc r) c = light_at n r c

-- Numbers of rows with the same cells, and no others, are the same.
pub same_row_numbers : (n a b : ℕ) → a < 2 ^ n → b < 2 ^ n → ((c : ℕ) → c < n → is_dark_bit a c ≡ is_dark_bit b c) → a ≡
    b
same_row_numbers n a b la lb cells =
    same_from_bits_below n a b la lb (λ c l. sym (digit-has a (2 ^ c)) ∙ ap digit (cells c l) ∙ digit-has b (2 ^ c))

-- A row with one cell made dark.
abbrev pub darkened : ℕ → ℕ → ℕ
darkened row c = bit_or row (1 * 2 ^ c % 2 ^ 128)

-- In a row with one cell made dark, that cell is dark and all others are as before.
pub darkened_cell : (row c e : ℕ) → c < 128 → is_dark_bit (darkened row c) e ≡ cond (nat_eq e c) true (is_dark_bit row
    e)
darkened_cell row c e l = by_column (nat_eq e c) refl
  where
    by_column : (t : Bool) → nat_eq e c ≡ t → is_dark_bit (darkened row c) e ≡ cond t true (is_dark_bit row e)
    by_column true h =
        ap (is_dark_bit (darkened row c)) (eqb-true e c h) ∙ ap (λ (i : ℕ). nat_eq i 1) (bit_at_set_same w128 row c l)
    by_column false h = ap (λ (i : ℕ). nat_eq i 1) (bit_at_set_other w128 row c l e (eqb-false e c h))

-- A row with one cell before the side made dark has no bit from the side on if it had none.
pub darkened_narrow : (row c side : ℕ) → c < 128 → c < side → row < 2 ^ side → darkened row c < 2 ^ side
darkened_narrow row c side lc l narrow = grind (arith, nat_tests, or_lt, pow_below, weight)
