-- Rows of the mapping matrix as numbers.
use Rattle.dm_layout.proofs.Names.{nat_tests, ◌≡◌, ◌⊎◌, inl, inr, ℕ, ◌+◌, ◌-◌, ◌*◌, ◌/◌, ◌%◌, ◌^◌, ◌<◌, ◌≤◌, Bool, true}
use Rattle.dm_layout.proofs.Names.{false, nat_eq, nat_lt, refl, sym, ◌∙◌, ap, arith, subst, bit_or, or_shifted_r}
use Rattle.dm_layout.proofs.Names.{ltb-true, ltb-false, mod-eq_of_lt, mul-le-mul_right, pow_pos, pow-add, mul-add-lt}
use Rattle.dm_layout.proofs.Names.{div-mul-add, pow_below, bit_at_cat_low, bit_at_cat_high, symbol_line, is_dark_bit}
use Rattle.dm_layout.proofs.Names.{wide_matrix}
use Rattle.dm_layout.proofs.symbols.Rows.{moved_bit, weight, prefix_cell}

-- ---- a row without its borders, region by region

-- The part of a row of the symbol that lies in one data region.
abbrev pub part_of : ℕ → ℕ → ℕ → ℕ
part_of row d a = row / 2 ^ (a * (d + 2) + 1) % (1 * 2 ^ d % 2 ^ 128)

-- The part of a row in a data region has no more bits than the region has columns.
part_small : (row d a : ℕ) → d < 128 → part_of row d a < 2 ^ d
part_small row d a l = grind (arith, nat_tests, weight, pow_pos)

-- Putting the part of one more region after the row so far adds its number, and the row stays within the regions.
pub record IsMore (inner row d a : ℕ) : Type 0 where
  pub is_sum : bit_or inner (part_of row d a * 2 ^ (a * d) % 2 ^ 128) ≡ part_of row d a * 2 ^ (a * d) + inner
  pub narrow : part_of row d a * 2 ^ (a * d) + inner < 2 ^ ((a + 1) * d)

-- The part of one more region is put to the left of those before it, where nothing stands yet.
is_more : (inner row d a : ℕ) → d < 128 → (a + 1) * d ≤ wide_matrix → inner < 2 ^ (a * d) → IsMore inner row d a
is_more inner row d a small fits narrow =
    let k : ℕ = a * d in
    let p : ℕ = part_of row d a in
    let l = part_small row d a small in
    let s : k + d ≡ (a + 1) * d = omega arith in
    let whole : p * 2 ^ k + inner < 2 ^ k * 2 ^ d = mul-add-lt p (2 ^ k) inner (2 ^ d) l narrow in
    let e : 2 ^ k * 2 ^ d ≡ 2 ^ ((a + 1) * d) = sym (pow-add 2 k d) ∙ ap (λ (i : ℕ). 2 ^ i) s in
    let n : p * 2 ^ k + inner < 2 ^ ((a + 1) * d) = subst (λ (i : ℕ). p * 2 ^ k + inner < i) e whole in
    let m : 2 ^ ((a + 1) * d) < 2 ^ 128 = pow_below ((a + 1) * d) 128 (omega arith) in
    let f : p * 2 ^ k < 2 ^ 128 = omega (arith, n, m) in
    record {
      is_sum = ap (bit_or inner) (mod-eq_of_lt f) ∙ or_shifted_r p k inner narrow;
      narrow = n;
    }

-- The inner row ends with the first regions, and its cells are those of the row between their borders.
pub record IsCut (row d a inner : ℕ) : Type 0 where
  pub narrow : inner < 2 ^ (a * d)
  pub so_far : (c : ℕ) → c < a * d → is_dark_bit inner c ≡ is_dark_bit row (symbol_line d c)

-- With the part of one more region put after them, the cells of an inner
-- row are those of the row between the borders.
pub one_more : (inner row d a : ℕ) → 6 ≤ d → d < 128 → inner < 2 ^ (a * d) →
    ((c : ℕ) → c < a * d → is_dark_bit inner c ≡ is_dark_bit row (symbol_line d c)) →
    (c : ℕ) → c < (a + 1) * d → is_dark_bit (part_of row d a * 2 ^ (a * d) + inner) c ≡ is_dark_bit row (symbol_line d
    c)
one_more inner row d a least small narrow so_far c l = by_part (below (nat_lt c (a * d)) refl)
  where
    below : (b : Bool) → nat_lt c (a * d) ≡ b → (c < a * d) ⊎ (a * d ≤ c)
    below true e = inl (ltb-true c (a * d) e)
    below false e = inr (ltb-false c (a * d) e)

    by_part : (c < a * d) ⊎ (a * d ≤ c) → is_dark_bit (part_of row d a * 2 ^ (a * d) + inner) c ≡
        is_dark_bit row (symbol_line d c)
    by_part (inl m) = ap (λ (i : ℕ). nat_eq i 1) (bit_at_cat_low (part_of row d a) (a * d) inner c m) ∙ so_far c m
    by_part (inr m) =
        let j : ℕ = c - a * d in
        let lj : j < d = omega arith in
        let s : ℕ = a * (d + 2) + 1 in
        let is : c ≡ a * d + j = omega arith in
        let q : c / d ≡ a = ap (λ (i : ℕ). i / d) is ∙ div-mul-add a d j lj in
        let line : s + j ≡ symbol_line d c = omega (arith, q) in
        rw (bit_at_cat_high, prefix_cell, moved_bit, line)

-- An inner row of some regions, with the part of the next one put after them, is one of one region more.
pub cut_more : (inner row d a n : ℕ) → 6 ≤ d → a < n → n * d ≤ wide_matrix → inner < 2 ^ (a * d) →
    ((c : ℕ) → c < a * d → is_dark_bit inner c ≡ is_dark_bit row (symbol_line d c)) →
    IsCut row d (a + 1) (bit_or inner (part_of row d a * 2 ^ (a * d) % 2 ^ 128))
cut_more inner row d a n least l fits narrow so_far =
    let m : (a + 1) * d ≤ n * d = mul-le-mul_right d (omega arith) in
    let t : (a + 1) * d ≡ a * d + d = omega arith in
    let small : d < 128 = omega (arith, m, t, fits) in
    let x = is_more inner row d a small (omega (arith, m, fits)) narrow in
    record {
      narrow = subst (λ (i : ℕ). i < 2 ^ ((a + 1) * d)) (sym x.is_sum) x.narrow;
      so_far = λ c lc. ap (λ (i : ℕ). is_dark_bit i c) x.is_sum ∙ one_more inner row d a least small narrow so_far c lc;
    }

-- The cells of the first region are cut from a row by one shift.
pub cut_first : (row d n : ℕ) → 6 ≤ d → 1 ≤ n → n * d ≤ wide_matrix →
    IsCut row d 1 (row / 2 ^ 1 % (1 * 2 ^ d % 2 ^ 128))
cut_first row d n least some fits =
    let m : 1 * d ≤ n * d = mul-le-mul_right d some in
    let small : d < 128 = omega (arith, m, fits) in
    let z : 1 * d ≡ d = omega arith in
    let w : row / 2 ^ 1 % (1 * 2 ^ d % 2 ^ 128) < 2 ^ d =
    below (row / 2 ^ 1) (1 * 2 ^ d % 2 ^ 128) (2 ^ d) (weight d small) (pow_pos d) in
    record {
      narrow = subst (λ (i : ℕ). row / 2 ^ 1 % (1 * 2 ^ d % 2 ^ 128) < 2 ^ i) (sym z) w;
      so_far = λ c lc.
          let l : c < d = omega arith in
          let q : c / d ≡ 0 = ap (λ (i : ℕ). i / d) (omega arith) ∙ div-mul-add 0 d c l in
          let line : 1 + c ≡ symbol_line d c = omega (arith, q) in
          rw (prefix_cell, moved_bit, line);
    }
  where
    below : (x m n : ℕ) → m ≡ n → 0 < n → x % m < n
    below x m n e p = omega arith

-- ---- the loops
