-- Rows of the mapping matrix in the rows of the symbol.
use Rattle.dm_layout.proofs.Names.{nat_tests, ◌≡◌, ◌⊎◌, inl, inr, ℕ, ◌+◌, ◌-◌, ◌*◌, ◌/◌, ◌%◌, ◌^◌, ◌<◌, ◌≤◌, false}
use Rattle.dm_layout.proofs.Names.{nat_eq, sym, ◌∙◌, ap, arith, subst, bit_and, mod-eq_of_lt, mul-le-mul_right}
use Rattle.dm_layout.proofs.Names.{div-div-eq-div-mul, lt_of_mul-lt-mul_right, pow_pos, pow_mono, cases_lt, pow-add}
use Rattle.dm_layout.proofs.Names.{mul-add-lt, div-mul-add, mod-mul-add, mod_below, div-add-mod', pow_below, and_le_l}
use Rattle.dm_layout.proofs.Names.{bit_at_cat_low, bit_at_cat_high, bit_at_above, bit_at-zero, symbol_line, is_dark_bit}
use Rattle.dm_layout.proofs.Names.{wide_matrix, most_wide}
use Rattle.std.proofs.Math.Nat.{div-mul-le_self}
use Rattle.std.proofs.lemmas.Nat.{and_mask}
use Rattle.dm_layout.proofs.symbols.Exported.{symbol_line-form, region_below}
use Rattle.dm_layout.proofs.symbols.Rows.{moved_bit, weight, prefix_cell}

-- ---- a row between borders, region by region

-- The part of a row of the mapping matrix that lies in one data region.
abbrev pub piece_of : ℕ → ℕ → ℕ → ℕ
piece_of inner d a = inner / 2 ^ (a * d) % (1 * 2 ^ d % 2 ^ 128)

-- The part of a row in a data region has no more bits than the region has columns.
piece_small : (inner d a : ℕ) → d < 128 → piece_of inner d a < 2 ^ d
piece_small inner d a l = grind (arith, nat_tests, weight, pow_pos)

-- The outer row ends with the first regions, has their cells between the
-- borders, and none of its border cells is dark.
pub record IsOut (inner d a outer : ℕ) : Type 0 where
  pub narrow : outer < 2 ^ (a * (d + 2))
  pub mapped : (c : ℕ) → c < a * d → is_dark_bit outer (symbol_line d c) ≡ is_dark_bit inner c
  pub border : (j : ℕ) → ((j % (d + 2) ≡ 0) ⊎ (j % (d + 2) ≡ d + 1)) → is_dark_bit outer j ≡ false

module _ (inner d a outer : ℕ) (least : 6 ≤ d) (small : d < 128) (old : IsOut inner d a outer) where
  abbrev p : ℕ
  p = piece_of inner d a

  abbrev k : ℕ
  k = a * (d + 2) + 1

  narrow_k : outer < 2 ^ (a * (d + 2) + 1)
  narrow_k = let m : 2 ^ (a * (d + 2)) ≤ 2 ^ (a * (d + 2) + 1) = pow_mono (omega arith) in let n = old.narrow in
      omega (arith, n, m)

  whole_mapped : (c : ℕ) → c < (a + 1) * d → is_dark_bit (p * 2 ^ k + outer) (symbol_line d c) ≡ is_dark_bit inner c
  whole_mapped c l = by_part (cases_lt c (a * d))
    where
      by_part : (c < a * d) ⊎ (a * d ≤ c) → is_dark_bit (p * 2 ^ k + outer) (symbol_line d c) ≡ is_dark_bit inner c
      by_part (inl m) =
          let q = region_below d c a least m in
          let f = symbol_line-form d c least in
          let g : (c / d + 1) * (d + 2) ≤ a * (d + 2) = mul-le-mul_right (d + 2) (omega (arith, q)) in
          let p0 : 0 < d = omega (arith, least) in
          let r : c % d < d = omega arith in
          let t : (c / d + 1) * (d + 2) ≡ c / d * (d + 2) + (d + 2) = omega arith in
          let below : symbol_line d c < a * (d + 2) + 1 = omega (arith, f, g, r, t) in
          ap (λ (i : ℕ). nat_eq i 1) (bit_at_cat_low p k outer (symbol_line d c) below) ∙ old.mapped c m
      by_part (inr m) =
          let j : ℕ = c - a * d in
          let s : (a + 1) * d ≡ a * d + d = omega arith in
          let lj : j < d = omega (arith, l, m, s) in
          let is : c ≡ a * d + j = omega (arith, m) in
          let q : c / d ≡ a = ap (λ (i : ℕ). i / d) is ∙ div-mul-add a d j lj in
          let line : symbol_line d c ≡ a * (d + 2) + 1 + j = omega (arith, q, is) in
          let far : a * (d + 2) + 1 ≤ a * (d + 2) + 1 + j = omega arith in
          let back : a * (d + 2) + 1 + j - (a * (d + 2) + 1) ≡ j = omega arith in
          ap (is_dark_bit (p * 2 ^ k + outer)) line
          ∙ ap (λ (i : ℕ). nat_eq i 1) (bit_at_cat_high p k outer (a * (d + 2) + 1 + j) narrow_k far)
          ∙ ap (is_dark_bit p) back
          ∙ prefix_cell (inner / 2 ^ (a * d)) d j small lj
          ∙ ap (λ (i : ℕ). nat_eq i 1) (moved_bit inner (a * d) j)
          ∙ ap (is_dark_bit inner) (sym is)

  whole_border : (j : ℕ) → ((j % (d + 2) ≡ 0) ⊎ (j % (d + 2) ≡ d + 1)) → is_dark_bit (p * 2 ^ k + outer) j ≡ false
  whole_border j e = by_part (cases_lt j (a * (d + 2) + 1)) (cases_lt (j - (a * (d + 2) + 1)) d)
    where
      by_part : (j < a * (d + 2) + 1) ⊎ (a * (d + 2) + 1 ≤ j) →
          (j - (a * (d + 2) + 1) < d) ⊎ (d ≤ j - (a * (d + 2) + 1)) → is_dark_bit (p * 2 ^ k + outer) j ≡ false
      by_part (inl l) x = ap (λ (i : ℕ). nat_eq i 1) (bit_at_cat_low p k outer j l) ∙ old.border j e
      by_part (inr l) (inr m) =
          ap (λ (i : ℕ). nat_eq i 1) (bit_at_cat_high p k outer j narrow_k l
          ∙ bit_at_above p d (j - (a * (d + 2) + 1)) (piece_small inner d a small) m)
      by_part (inr l) (inl m) =
          let i : ℕ = j - (a * (d + 2) + 1) in
          let is : j ≡ a * (d + 2) + (i + 1) = omega (arith, l) in
          let r : j % (d + 2) ≡ i + 1 =
          ap (λ (x : ℕ). x % (d + 2)) is ∙ mod-mul-add a (d + 2) (i + 1) (omega (arith, m)) in
          absurd (never i e r m)
        where
          never : (i : ℕ) → ((j % (d + 2) ≡ 0) ⊎ (j % (d + 2) ≡ d + 1)) → j % (d + 2) ≡ i + 1 → i < d → ⊥
          never i (inl z) r m = omega (arith, z, r)
          never i (inr z) r m = omega (arith, z, r, m)

-- An outer row of some regions, with the part of the next region put after its border, is one of one region more.
pub out_more : (inner outer d a : ℕ) → 6 ≤ d → d < 128 → IsOut inner d a outer →
    IsOut inner d (a + 1) (piece_of inner d a * 2 ^ (a * (d + 2) + 1) + outer)
out_more inner outer d a least small old =
    let k : ℕ = a * (d + 2) + 1 in
    let p : ℕ = piece_of inner d a in
    let ps = piece_small inner d a small in
    let nk = narrow_k inner d a outer least small old in
    let sum_small : p * 2 ^ k + outer < 2 ^ k * 2 ^ d = mul-add-lt p (2 ^ k) outer (2 ^ d) ps nk in
    let s2 : p * 2 ^ k + outer < 2 ^ (k + d) =
    subst (λ (i : ℕ). p * 2 ^ k + outer < i) (sym (pow-add 2 k d)) sum_small in
    let s3 : 2 ^ (k + d) ≤ 2 ^ ((a + 1) * (d + 2)) = pow_mono (omega arith) in
    record {
      narrow = omega (arith, s2, s3);
      mapped = whole_mapped inner d a outer least small old;
      border = whole_border inner d a outer least small old;
    }

-- ---- a row whose borders are opened one after the other

-- The first regions stand between their borders, and the rest of the row follows them.
pub record IsOpened (inner d a outer : ℕ) : Type 0 where
  pub out : ℕ
  pub is : IsOut inner d a out
  pub sum : outer ≡ inner / 2 ^ (a * d) * 2 ^ (a * (d + 2) + 1) + out

-- Moved by one column, a row stands with its first region after a border, and none of its borders is opened yet.
pub opened_first : (inner d n : ℕ) → n ≤ wide_matrix → inner < 2 ^ n → IsOpened inner d 0 (inner * 2 % 2 ^ 128)
opened_first inner d n most narrow =
    let z : 0 * d ≡ 0 = omega arith in
    let y : 0 * (d + 2) + 1 ≡ 1 = omega arith in
    let o : inner / 1 ≡ inner = omega arith in
    let e : inner * 2 ≡ inner * 2 + 0 = omega arith in
    let m : 2 ^ n ≤ 2 ^ 120 = pow_mono {j = 120} most in
    record {
      out = 0;
      is = record {
        narrow = pow_pos (0 * (d + 2));
        mapped = λ c l. absurd (omega (arith, l, z));
        border = λ j e. ap (λ (i : ℕ). nat_eq i 1) (bit_at-zero j);
      };
      sum =
          mod-eq_of_lt (omega (arith, m, narrow)) ∙ e ∙ ap (λ (i : ℕ). i * 2 + 0) (sym o)
          ∙ ap (λ (i : ℕ). inner / 2 ^ i * 2 + 0) (sym z) ∙ ap (λ (i : ℕ). inner / 2 ^ (0 * d) * 2 ^ i + 0) (sym y);
    }

-- Opening one more border takes no more than there is, fits in the row,
-- and lets the next region stand between its borders.
pub record IsNext (inner d a outer left : ℕ) : Type 0 where
  pub part : left ≤ outer
  pub fits : left + (outer - left) * 4 % 2 ^ 128 < 2 ^ 128
  pub next : IsOpened inner d (a + 1) (left + (outer - left) * 4 % 2 ^ 128)

-- A number in three parts is the sum of each part times its weight.
in_parts : (x y p d w outer out : ℕ) → x ≡ y * d + p → outer ≡ x * w + out → outer ≡ y * (w * d) + (p * w + out)
in_parts x y p d w outer out e f = f ∙ ap (λ (i : ℕ). i * w + out) e ∙ same
  where
    same : (y * d + p) * w + out ≡ y * (w * d) + (p * w + out)
    same = omega arith

module _ (inner d a n outer prefix : ℕ) (least : 6 ≤ d) (few : n * (d + 2) ≤ most_wide) (l : a + 1 < n)
    (most : n * d ≤ wide_matrix) (narrow : inner < 2 ^ (n * d)) (old : IsOpened inner d a outer)
    (is : prefix ≡ 2 ^ (a * (d + 2) + 1 + d) - 1) where
  abbrev x : ℕ
  x = inner / 2 ^ (a * d)

  abbrev y : ℕ
  y = x / 2 ^ d

  abbrev q : ℕ
  q = a * (d + 2) + 1

  abbrev low : ℕ
  low = x % 2 ^ d * 2 ^ q + old.out

  wide : (a + 1) * d ≤ wide_matrix
  wide = let m : (a + 1) * d ≤ n * d = mul-le-mul_right d (omega (arith, l)) in omega (arith, m, most)

  small_d : d < 128
  small_d = let w = wide in let t : (a + 1) * d ≡ a * d + d = omega arith in omega (arith, w, t)

  region_ends : a * (d + 2) + 1 + d < 127
  region_ends = grind (arith, nat_tests, mul-le-mul_right, least)

  low_small : low < 2 ^ (q + d)
  low_small =
      let nk = narrow_k inner d a old.out least small_d old.is in
      let p = pow_pos d in
      let r : x % 2 ^ d < 2 ^ d = mod_below x (2 ^ d) p in
      subst (λ (i : ℕ). low < i) (sym (pow-add 2 q d)) (mul-add-lt (x % 2 ^ d) (2 ^ q) old.out (2 ^ d) r nk)

  form : outer ≡ y * 2 ^ (q + d) + low
  form =
      rw (in_parts x y (x % 2 ^ d) (2 ^ d) (2 ^ q) outer old.out (sym (div-add-mod' x (2 ^ d))) old.sum, pow-add 2 q d)

  left_is : bit_and outer prefix ≡ low
  left_is =
      rw (is, and_mask outer (q + d), form, mod-mul-add y (2 ^ (q + d)) low low_small)

  y_is : y ≡ inner / 2 ^ ((a + 1) * d)
  y_is =
      let t : a * d + d ≡ (a + 1) * d = omega arith in
      cc (div-div-eq-div-mul inner (2 ^ (a * d)) (2 ^ d), pow-add 2 (a * d) d, t)

  -- The rest of the row is moved by two columns more.
  moved : (outer - bit_and outer prefix) * 4 ≡ y * 2 ^ ((a + 1) * (d + 2) + 1)
  moved =
      let t : q + d + 2 ≡ (a + 1) * (d + 2) + 1 = omega arith in
      let r : outer - low ≡ y * 2 ^ (q + d) = rest outer low (y * 2 ^ (q + d)) form in
      cc (left_is, r, four y (2 ^ (q + d)), pow-add 2 (q + d) 2, t)
    where
      rest : (o k t : ℕ) → o ≡ t + k → o - k ≡ t
      rest o k t e = omega (arith, e)

      four : (u v : ℕ) → u * v * 4 ≡ u * (v * 4)
      four u v = omega arith

  moved_small : y * 2 ^ ((a + 1) * (d + 2) + 1) < 2 ^ 127
  moved_small =
      let e : (a + 1) * d + (2 * a + 3) ≡ (a + 1) * (d + 2) + 1 = omega arith in
      let u : y * 2 ^ ((a + 1) * d) ≤ inner =
      subst (λ (i : ℕ). i * 2 ^ ((a + 1) * d) ≤ inner) (sym y_is) (div-mul-le_self inner (2 ^ ((a + 1) * d))) in
      let v : y * 2 ^ ((a + 1) * d) < 2 ^ (n * d) = omega (arith, u, narrow) in
      let m = mul-add-lt (y * 2 ^ ((a + 1) * d)) (2 ^ (2 * a + 3)) 0 (2 ^ (n * d)) v (pow_pos (2 * a + 3)) in
      let t : n * (d + 2) ≡ n * d + 2 * n = omega arith in
      let b : 2 ^ (2 * a + 3 + n * d) ≤ 2 ^ 127 = pow_mono {j = 127} (omega (arith, t, l, few)) in
      let g : 2 ^ (2 * a + 3) * 2 ^ (n * d) ≡ 2 ^ (2 * a + 3 + n * d) = sym (pow-add 2 (2 * a + 3) (n * d)) in
      let h : y * 2 ^ ((a + 1) * (d + 2) + 1) ≡ y * 2 ^ ((a + 1) * d) * 2 ^ (2 * a + 3) =
      cc (e, pow-add 2 ((a + 1) * d) (2 * a + 3), three y (2 ^ ((a + 1) * d)) (2 ^ (2 * a + 3))) in
      below (y * 2 ^ ((a + 1) * (d + 2) + 1)) (y * 2 ^ ((a + 1) * d) * 2 ^ (2 * a + 3)) (2 ^ (2 * a + 3) * 2 ^ (n * d))
      (2 ^ (2 * a + 3 + n * d)) (2 ^ 127) h m g b
    where
      three : (u v w : ℕ) → u * (v * w) ≡ u * v * w
      three u v w = omega arith

      below : (u v w t z : ℕ) → u ≡ v → v + 0 < w → w ≡ t → t ≤ z → u < z
      below u v w t z e f g h = omega (arith, e, f, g, h)

  -- One more border is opened.
  pub opened_more : IsNext inner d a outer (bit_and outer prefix)
  opened_more =
      let s = moved_small in
      let e = left_is in
      let t : (outer - bit_and outer prefix) * 4 % 2 ^ 128 ≡ y * 2 ^ ((a + 1) * (d + 2) + 1) =
      ap (λ (i : ℕ). i % 2 ^ 128) moved ∙ mod-eq_of_lt (omega (arith, s)) in
      let b : 2 ^ (q + d) < 2 ^ 127 = pow_below (q + d) 127 region_ends in
      let ls = low_small in
      record {
        part = and_le_l outer prefix;
        fits =
            below (bit_and outer prefix) low ((outer - bit_and outer prefix) * 4 % 2 ^ 128)
            (y * 2 ^ ((a + 1) * (d + 2) + 1)) (2 ^ (q + d)) e t ls b s;
        next = record {
          out = piece_of inner d a * 2 ^ q + old.out;
          is = out_more inner old.out d a least small_d old.is;
          sum =
              ap (λ (i : ℕ). i + (outer - bit_and outer prefix) * 4 % 2 ^ 128) left_is
              ∙ ap (λ (i : ℕ). low + i) (t ∙ ap (λ (i : ℕ). i * 2 ^ ((a + 1) * (d + 2) + 1)) y_is)
              ∙ ap (λ (i : ℕ). x % i * 2 ^ q + old.out + inner / 2 ^ ((a + 1) * d) * 2 ^ ((a + 1) * (d + 2) + 1))
              (sym (weight d small_d))
              ∙ turned (piece_of inner d a * 2 ^ q + old.out) (inner / 2 ^ ((a + 1) * d) * 2 ^ ((a + 1) * (d + 2) + 1));
        };
      }
    where
      below : (u v w t z : ℕ) → u ≡ v → w ≡ t → v < z → z < 2 ^ 127 → t < 2 ^ 127 → u + w < 2 ^ 128
      below u v w t z e f g h k = omega (arith, e, f, g, h, k)

      turned : (u v : ℕ) → u + v ≡ v + u
      turned u v = omega arith

-- Once the borders of all regions but the last are opened, the row is the outer row of all regions.
pub opened_all : (inner d a n outer : ℕ) → 6 ≤ d → n ≡ a + 1 → n * d ≤ wide_matrix → inner < 2 ^ (n * d) →
    IsOpened inner d a outer → IsOut inner d n outer
opened_all inner d a n outer least en most narrow old =
    let p0 = pow_pos (a * d) in
    let x : ℕ = inner / 2 ^ (a * d) in
    let t : n * d ≡ a * d + d = ap (λ (i : ℕ). i * d) en ∙ more in
    let small : d < 128 = omega (arith, t, most) in
    let m : x * 2 ^ (a * d) ≤ inner = div-mul-le_self inner (2 ^ (a * d)) in
    let w : 2 ^ (n * d) ≡ 2 ^ d * 2 ^ (a * d) =
    ap (λ (i : ℕ). 2 ^ i) t ∙ pow-add 2 (a * d) d ∙ turned (2 ^ (a * d)) (2 ^ d) in
    let lx : x < 2 ^ d =
    lt_of_mul-lt-mul_right (2 ^ (a * d)) (below (x * 2 ^ (a * d)) inner (2 ^ (n * d)) (2 ^ d * 2 ^ (a * d)) m narrow
    w) in
    let px : x ≡ piece_of inner d a = sym (ap (λ (i : ℕ). x % i) (weight d small) ∙ mod-eq_of_lt lx) in
    let e : outer ≡ piece_of inner d a * 2 ^ (a * (d + 2) + 1) + old.out =
    old.sum ∙ ap (λ (i : ℕ). i * 2 ^ (a * (d + 2) + 1) + old.out) px in
    let l : a < n = omega (arith, en) in
    rw (← e, ← en) at (out_more inner old.out d a least small old.is)
  where
    more : (a + 1) * d ≡ a * d + d
    more = omega arith

    turned : (u v : ℕ) → u * v ≡ v * u
    turned u v = omega arith

    below : (u v w t : ℕ) → u ≤ v → v < w → w ≡ t → u < t
    below u v w t e f g = omega (arith, e, f, g)
