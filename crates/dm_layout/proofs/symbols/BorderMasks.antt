-- The border cells of a symbol's rows as bits.
use Rattle.dm_layout.proofs.Names.{◌≡◌, ◌≢◌, ◌⊎◌, inl, inr, ℕ, zero, suc, ◌+◌, ◌-◌, ◌*◌, ◌/◌, ◌%◌, ◌^◌, ◌<◌, ◌≤◌, Bool}
use Rattle.dm_layout.proofs.Names.{true, false, ◌&&◌, ◌||◌, cond, nat_eq, nat_lt, refl, sym, ◌∙◌, ap, subst, arith}
use Rattle.dm_layout.proofs.Names.{eq-eqb, beq, booleans_Decides, bit_and, range_with_len, list_all, pow_mono, pow_pos}
use Rattle.dm_layout.proofs.Names.{eqb-true, ne_eqb, cases_lt, le-ltb, lt-ltb, div-add-mod', mod-mul-add, div-mul-add}
use Rattle.dm_layout.proofs.Names.{pow-add, is_on_edge, edge_is_dark, all_below, is_dark_bit, SizeEntry, IsSize}
use Rattle.dm_layout.proofs.Names.{AreBorders, AreRuled, nat_tests, EVEN_COLUMNS, EVEN_END}
use Rattle.dm_place.proofs.Exported.{same_tests}
use Rattle.dm_layout.proofs.symbols.TableEntries.{size_facts}
use Rattle.dm_layout.specs.symbols.inner.BorderMasks.{AreBorderCells, AreDarkCells}
use Rattle.dm_layout.proofs.symbols.Rows.{darkened, darkened_cell, darkened_narrow}
use Rattle.dm_layout.proofs.symbols.SlotRows.{and_dark}
use Rattle.dm_layout.proofs.symbols.SureCells.{row_inside}

-- ---- the columns of borders, region by region

-- A column lies within the first a squares, in the next square, or behind that square.
pub stands : (c a s : ℕ) → (c < a * s) ⊎ ((x : ℕ) × (x < s) × (c ≡ a * s + x)) ⊎ (a * s + s ≤ c)
stands c a s = by_start (cases_lt c (a * s))
  where
    by_start : (c < a * s) ⊎ (a * s ≤ c) → (c < a * s) ⊎ ((x : ℕ) × (x < s) × (c ≡ a * s + x)) ⊎ (a * s + s ≤ c)
    by_start (inl l) = inl l
    by_start (inr m) = by_end (cases_lt c (a * s + s))
      where
        by_end : (c < a * s + s) ⊎ (a * s + s ≤ c) →
            (c < a * s) ⊎ ((x : ℕ) × (x < s) × (c ≡ a * s + x)) ⊎ (a * s + s ≤ c)
        by_end (inl l) = inr (inl (c - a * s, omega arith, omega arith))
        by_end (inr k) = inr (inr k)

-- Darkening the left column of a square leaves the columns before the square as they were.
left_before : (p q : Bool) → p ≡ false → cond p true (true && q) ≡ true && q
left_before p q e = ap (λ (b : Bool). cond b true (true && q)) e

-- In a square whose left column is darkened only that column is dark.
left_here : (p q : Bool) → p ≡ q → cond p true (false && q) ≡ true && q
left_here x y e = grind (arith, nat_tests)

-- Darkening the left column of a square leaves the columns behind the square light.
left_behind : (p q : Bool) → p ≡ false → cond p true (false && q) ≡ false && q
left_behind p q e = ap (λ (b : Bool). cond b true (false && q)) e

-- Darkening the left and right columns of a square leaves the columns before the square as they were.
both_before : (p r q : Bool) → p ≡ false → r ≡ false → cond r true (cond p true (true && q)) ≡ true && q
both_before p r q e f =
    ap (λ (b : Bool). cond b true (cond p true (true && q))) f ∙ ap (λ (b : Bool). cond b true (true && q)) e

-- In a square whose left and right columns are darkened only these two are dark.
both_here : (p r q v : Bool) → p ≡ q → r ≡ v → cond r true (cond p true (false && (q || v))) ≡ true && (q || v)
both_here x r y v e f = grind (arith, nat_tests)

-- Darkening the left and right columns of a square leaves the columns behind the square light.
both_behind : (p r q : Bool) → p ≡ false → r ≡ false → cond r true (cond p true (false && q)) ≡ false && q
both_behind p r q e f =
    ap (λ (b : Bool). cond b true (cond p true (false && q))) f ∙ ap (λ (b : Bool). cond b true (false && q)) e

module _ (last a c : ℕ) where
  abbrev s : ℕ
  s = last + 1

  abbrev k : ℕ
  k = a * (last + 1)

  next : (a + 1) * (last + 1) ≡ a * (last + 1) + (last + 1)
  next = omega arith

  pub left_at : (c < k) ⊎ ((x : ℕ) × (x < s) × (c ≡ k + x)) ⊎ (k + s ≤ c) →
      cond (nat_eq c k) true (nat_lt c k && nat_eq (c % s) 0) ≡ nat_lt c ((a + 1) * s) && nat_eq (c % s) 0
  left_at (inl l) =
      rw (lt-ltb c k l, lt-ltb c ((a + 1) * s) (omega (arith, next, l)))
      (left_before (nat_eq c k) (nat_eq (c % s) 0) (ne_eqb c k (λ z. omega (arith, z, l))))
  left_at (inr (inr l)) =
      rw (le-ltb c k (omega (arith, l)), le-ltb c ((a + 1) * s) (omega (arith, next, l)))
      (left_behind (nat_eq c k) (nat_eq (c % s) 0) (ne_eqb c k (λ z. omega (arith, z, l))))
  left_at (inr (inl (x, small, is))) =
      let r : c % s ≡ x = ap (λ (i : ℕ). i % s) is ∙ mod-mul-add a s x small in
      rw (le-ltb c k (omega (arith, is)), lt-ltb c ((a + 1) * s) (omega (arith, next, is, small)))
      (left_here (nat_eq c k) (nat_eq (c % s) 0)
      (same_tests c k (c % s) 0 (λ z. omega (arith, is, r, z)) (λ z. omega (arith, is, r, z))))

  pub both_at : (c < k) ⊎ ((x : ℕ) × (x < s) × (c ≡ k + x)) ⊎ (k + s ≤ c) →
      cond (nat_eq c (k + last)) true (cond (nat_eq c k) true (nat_lt c k
      && (nat_eq (c % s) 0 || nat_eq (c % s) last))) ≡ nat_lt c ((a + 1) * s)
      && (nat_eq (c % s) 0 || nat_eq (c % s) last)
  both_at (inl l) =
      rw (lt-ltb c k l, lt-ltb c ((a + 1) * s) (omega (arith, next, l)))
      (both_before (nat_eq c k) (nat_eq c (k + last)) (nat_eq (c % s) 0 || nat_eq (c % s) last)
      (ne_eqb c k (λ z. omega (arith, z, l))) (ne_eqb c (k + last) (λ z. omega (arith, z, l))))
  both_at (inr (inr l)) =
      rw (le-ltb c k (omega (arith, l)), le-ltb c ((a + 1) * s) (omega (arith, next, l)))
      (both_behind (nat_eq c k) (nat_eq c (k + last)) (nat_eq (c % s) 0 || nat_eq (c % s) last)
      (ne_eqb c k (λ z. omega (arith, z, l))) (ne_eqb c (k + last) (λ z. omega (arith, z, l))))
  both_at (inr (inl (x, small, is))) =
      let r : c % s ≡ x = ap (λ (i : ℕ). i % s) is ∙ mod-mul-add a s x small in
      rw (le-ltb c k (omega (arith, is)), lt-ltb c ((a + 1) * s) (omega (arith, next, is, small)))
      (both_here (nat_eq c k) (nat_eq c (k + last)) (nat_eq (c % s) 0) (nat_eq (c % s) last)
      (same_tests c k (c % s) 0 (λ z. omega (arith, is, r, z)) (λ z. omega (arith, is, r, z)))
      (same_tests c (k + last) (c % s) last (λ z. omega (arith, is, r, z)) (λ z. omega (arith, is, r, z))))

-- Darkening the left and right columns of one more square gives those of the first a + 1 squares.
pub one_ruled : (last a left both : ℕ) → 1 ≤ last → (a + 1) * (last + 1) ≤ 128 → AreRuled last a left both →
    AreRuled last (a + 1) (darkened left (a * (last + 1)))
    (darkened (darkened both (a * (last + 1))) (a * (last + 1) + last))
one_ruled last a left both least fits old =
    let k : ℕ = a * (last + 1) in
    let n : ℕ = (a + 1) * (last + 1) in
    let e : n ≡ k + (last + 1) = omega arith in
    let m : 2 ^ k ≤ 2 ^ n = pow_mono (omega (arith, e)) in
    let lk : k < 128 = omega (arith, e, fits) in
    let ll : k + last < 128 = omega (arith, e, fits) in
    let nk : k < n = omega (arith, e) in
    let nl : k + last < n = omega (arith, e) in
    let lw = old.left_width in
    let bw = old.both_width in
    record {
      left_columns =
          λ c. rw (darkened_cell left k c lk, old.left_columns c, left_at last a c (stands c a (last + 1)));
      both_columns = λ c.
          darkened_cell (darkened both k) (k + last) c ll
          ∙ ap (cond (nat_eq c (k + last)) true) (darkened_cell both k c lk
          ∙ ap (cond (nat_eq c k) true) (old.both_columns c))
          ∙ both_at last a c (stands c a (last + 1));
      left_width = darkened_narrow left k n lk nk (omega (arith, m, lw));
      both_width =
          darkened_narrow (darkened both k) (k + last) n ll nl (darkened_narrow both k n lk nk (omega (arith, m, bw)));
    }

-- A test of 128 columns, computed by the checker: in the row the even columns are dark.
patterns : list_all (λ c. beq (is_dark_bit EVEN_COLUMNS c) (nat_eq (c % 2) 0)) (range_with_len 0 128) ≡ true
patterns = refl

-- The row is dark at a column exactly where the column is even.
pub patterns_at : (c : ℕ) → c < 128 → is_dark_bit EVEN_COLUMNS c ≡ nat_eq (c % 2) 0
patterns_at c l =
    (booleans_Decides _ _).0 (all_below (λ c. beq (is_dark_bit EVEN_COLUMNS c) (nat_eq (c % 2) 0)) 128 c patterns l)

-- So it is in the columns behind these.
end_patterns : list_all (λ c. beq (is_dark_bit EVEN_END c) (nat_eq (c % 2) 0)) (range_with_len 0 16) ≡ true
end_patterns = refl

pub end_patterns_at : (c : ℕ) → c < 16 → is_dark_bit EVEN_END c ≡ nat_eq (c % 2) 0
end_patterns_at c l =
    (booleans_Decides _ _).0 (all_below (λ c. beq (is_dark_bit EVEN_END c) (nat_eq (c % 2) 0)) 16 c end_patterns l)

-- The cells of one row that all cells of another leave are its own.
pub left_by_all : (row all c : ℕ) → is_dark_bit all c ≡ true → is_dark_bit (bit_and row all) c ≡ is_dark_bit row c
left_by_all row all c e = grind (arith, nat_tests, and_dark)

-- Once the columns of all regions are drawn, the four rows are those of the borders of the size.
pub are_borders : (size : SizeEntry) (low last a left both even all : ℕ) → IsSize size →
    low ≡ size.region_rows + 1 → last ≡ size.region_columns + 1 → a ≡ size.regions_across → AreRuled last a left both →
    ((c : ℕ) → c < size.columns → is_dark_bit all c ≡ true) → all < 2 ^ size.columns →
    ((c : ℕ) → c < size.columns → is_dark_bit even c ≡ nat_eq (c % 2) 0) → even < 2 ^ size.columns →
    AreBorders size low left both even all
are_borders size low last a left both even all entry ew el ea ruled av aw ev vw =
    let facts = size_facts size entry in
    let s : last + 1 ≡ size.region_columns + 2 = omega (arith, el) in
    let w : a * (last + 1) ≡ size.columns =
    ap (λ (i : ℕ). i * (last + 1)) ea ∙ ap (λ (i : ℕ). size.regions_across * i) s ∙ sym facts.columns in
    record {
      entry = entry;
      last_row = ew;
      left_columns = λ c l.
          rw (ruled.left_columns c, lt-ltb c (a * (last + 1)) (omega (arith, w, l)), s);
      both_columns = λ c l.
          rw (ruled.both_columns c, lt-ltb c (a * (last + 1)) (omega (arith, w, l)), s, el);
      even_columns = ev;
      all_columns = av;
      left_width = subst (λ (i : ℕ). left < 2 ^ i) w ruled.left_width;
      both_width = subst (λ (i : ℕ). both < 2 ^ i) w ruled.both_width;
      even_width = vw;
      all_width = aw;
    }

-- All columns of a row are those of the number with as many ones.
pub all_ones : (n c : ℕ) → c < n → is_dark_bit (2 ^ n - 1) c ≡ true
all_ones n c l =
    let k : ℕ = n - (c + 1) in
    let e : n ≡ c + 1 + k = omega (arith, l) in
    let p : 2 ^ n ≡ 2 ^ (c + 1) * 2 ^ k = ap (λ (i : ℕ). 2 ^ i) e ∙ pow-add 2 (c + 1) k in
    let q : 2 ^ (c + 1) ≡ 2 ^ c * 2 ^ 1 = pow-add 2 c 1 in
    rw (p, q, odd (2 ^ c) (2 ^ k) (pow_pos c) (pow_pos k))
  where
    odd : (x y : ℕ) → 0 < x → 0 < y → nat_eq ((x * 2 ^ 1 * y - 1) / x % 2) 1 ≡ true
    odd x zero px py = absurd (omega (arith, py))
    odd x (suc z) px py =
        let whole : x * 2 ^ 1 * suc z - 1 ≡ (2 * z + 1) * x + (x - 1) = omega (arith, px) in
        let q : (x * 2 ^ 1 * suc z - 1) / x ≡ 2 * z + 1 =
        ap (λ (i : ℕ). i / x) whole ∙ div-mul-add (2 * z + 1) x (x - 1) (omega (arith, px)) in
        eq-eqb _ 1 (ap (λ (i : ℕ). i % 2) q ∙ (let o : (2 * z + 1) % 2 ≡ 1 = omega arith in o))

-- ---- the rows of a square

-- If the second of four tests passes, one of the four does.
any_second : (p r s : Bool) → p || true || r || s ≡ true
any_second true r s = refl
any_second false r s = refl

-- If the third of four tests passes, one of the four does.
any_third : (p q s : Bool) → p || q || true || s ≡ true
any_third x q s = grind (arith, nat_tests)

-- All cells of the last row of a square are dark border cells.
dark_bottom : (p r s e o : Bool) → true ≡ (p || true || r || s) && cond (p || true) true (cond r e o)
dark_bottom true r s e o = refl
dark_bottom false r s e o = refl

-- In the first row of a square a cell is dark exactly where its column is even, the left column being even.
dark_top : (p s e o : Bool) → (p ≡ true → e ≡ true) →
    e ≡ (p || false || true || s) && cond (p || false) true (cond true e o)
dark_top true s e o h = h refl
dark_top false s e o h = refl

-- In squares of even side a column is even exactly where its place in its square is even.
mod_twice : (c s : ℕ) → s % 2 ≡ 0 → 0 < s → c % s % 2 ≡ c % 2
mod_twice c s even p =
    let h : ℕ = s / 2 in
    let q : ℕ = c / s in
    let m : ℕ = c % s in
    let t : ℕ = q * h in
    let e : s ≡ 2 * h = omega (arith, even) in
    let parts : q * s + m ≡ c = div-add-mod' c s in
    let f : c ≡ 2 * t + m = sym parts ∙ ap (λ (i : ℕ). q * i + m) e ∙ regroup q h m in
    omega (arith, f)
  where
    regroup : (q h m : ℕ) → q * (2 * h) + m ≡ 2 * (q * h) + m
    regroup q h m = omega arith

-- In an even row between the first and the last one the left column is dark.
dark_left : (p s t : Bool) → p ≡ ((p || false || false || s) && cond (p || false) true (cond false t false))
dark_left true s t = refl
dark_left false true t = refl
dark_left false false t = refl

module _ (size : SizeEntry) (last left both even all : ℕ) (b : AreBorders size last left both even all)
    (inner : ℕ) where
  abbrev d : ℕ
  d = size.region_rows

  abbrev e : ℕ
  e = size.region_columns

  -- All cells of the first and the last row of a square are border cells.
  pub cells_all : (inner ≡ 0) ⊎ (inner ≡ last) → (c : ℕ) → c < size.columns →
      is_dark_bit all c ≡ is_on_edge size.region_rows size.region_columns inner (c % (size.region_columns + 2))
  cells_all (inl z) c l =
      b.all_columns c l ∙ sym (ap (λ (t : Bool). nat_eq (c % (e + 2)) 0 || nat_eq inner (d + 1) || t
      || nat_eq (c % (e + 2)) (e + 1)) (eq-eqb inner 0 z)
      ∙ any_third (nat_eq (c % (e + 2)) 0) (nat_eq inner (d + 1)) (nat_eq (c % (e + 2)) (e + 1)))
  cells_all (inr z) c l =
      b.all_columns c l
      ∙ sym (ap (λ (t : Bool). nat_eq (c % (e + 2)) 0 || t || nat_eq inner 0 || nat_eq (c % (e + 2)) (e + 1))
      (eq-eqb inner (d + 1) (z ∙ b.last_row))
      ∙ any_second (nat_eq (c % (e + 2)) 0) (nat_eq inner 0) (nat_eq (c % (e + 2)) (e + 1)))

  -- The row in which all columns are dark has the border colours of a square's last row.
  pub dark_in_last : inner ≡ last → (c : ℕ) → c < size.columns →
      is_dark_bit all c ≡ (is_on_edge size.region_rows size.region_columns inner (c % (size.region_columns + 2))
      && edge_is_dark size.region_rows inner (c % (size.region_columns + 2)))
  dark_in_last z c l = grind (arith, nat_tests, dark_bottom, eq-eqb)

  -- The row in which the even columns are dark has the border colours of a square's first row.
  pub dark_in_first : inner ≢ last → inner ≡ 0 → (c : ℕ) → c < size.columns →
      is_dark_bit even c ≡ (is_on_edge size.region_rows size.region_columns inner (c % (size.region_columns + 2))
      && edge_is_dark size.region_rows inner (c % (size.region_columns + 2)))
  dark_in_first nl z c l =
      let p : Bool = nat_eq (c % (e + 2)) 0 in
      let s : Bool = nat_eq (c % (e + 2)) (e + 1) in
      let two = (size_facts size b.entry).even_columns in
      let m : c % (e + 2) % 2 ≡ c % 2 = mod_twice c (e + 2) (omega (arith, two)) (omega arith) in
      b.even_columns c l
      ∙ ap (λ (i : ℕ). nat_eq i 0) (sym m)
      ∙ dark_top p s (nat_eq (c % (e + 2) % 2) 0) (nat_eq (inner % 2) 1)
      (λ y. ap (λ (i : ℕ). nat_eq (i % 2) 0) (eqb-true (c % (e + 2)) 0 y))
      ∙ ap (λ (t : Bool). (p || t || true || s) && cond (p || t) true
      (cond true (nat_eq (c % (e + 2) % 2) 0) (nat_eq (inner % 2) 1)))
      (sym (ne_eqb inner (d + 1) (λ y. nl (y ∙ sym b.last_row))))
      ∙ ap (λ (t : Bool). (p || nat_eq inner (d + 1) || t || s)
      && cond (p || nat_eq inner (d + 1)) true (cond t (nat_eq (c % (e + 2) % 2) 0) (nat_eq (inner % 2) 1)))
      (sym (eq-eqb inner 0 z))

  -- An even row between them has those of the left columns.
  pub dark_in_even : inner ≢ last → inner ≢ 0 → inner % 2 ≢ 1 → (c : ℕ) → c < size.columns →
      is_dark_bit left c ≡ (is_on_edge size.region_rows size.region_columns inner (c % (size.region_columns + 2))
      && edge_is_dark size.region_rows inner (c % (size.region_columns + 2)))
  dark_in_even nl nz odd c l =
      rw (
        ne_eqb inner (d + 1) (λ y. nl (y ∙ sym b.last_row)),
        ne_eqb inner 0 nz,
        ne_eqb (inner % 2) 1 odd,
        b.left_columns c l,
      ) (dark_left (nat_eq (c % (e + 2)) 0) (nat_eq (c % (e + 2)) (e + 1)) (nat_eq (c % (e + 2) % 2) 0))

-- ---- the rows between the first and the last one of a region

-- The border cells of such rows lie in the same columns.
same_edges : (n c i j column : ℕ) → 1 ≤ i → i ≤ n → 1 ≤ j → j ≤ n →
    is_on_edge n c j column ≡ is_on_edge n c i column
same_edges n c i j column li ui lj uj = grind (arith, nat_tests)

-- Those that are to be dark do, too, where both rows are odd or even.
same_dark_edges : (n i j column : ℕ) → 1 ≤ i → i ≤ n → 1 ≤ j → j ≤ n → i % 2 ≡ j % 2 →
    edge_is_dark n j column ≡ edge_is_dark n i column
same_dark_edges n i j column li ui lj uj same = grind (arith, nat_tests)

module _ (m s : SizeEntry) (first i row x : ℕ) (e : s ≡ m) (start : first % (m.region_rows + 2) ≡ 0)
    (at : row ≡ first + i) (l : i < m.region_rows + 2) where
  -- A row of a region stands at this place.
  place : i ≡ row % (m.region_rows + 2)
  place =
      row_inside (m.region_rows + 2) first i start l ∙ ap (λ (r : ℕ). r % (m.region_rows + 2)) (sym at)

  -- What its border cells are is so of the row.
  pub row_cells : AreBorderCells s i x → AreBorderCells m (row % (m.region_rows + 2)) x
  row_cells cells =
      subst (λ (k : ℕ). AreBorderCells m k x) place (subst (λ (t : SizeEntry). AreBorderCells t i x) e cells)

  pub row_dark : AreDarkCells s i x → AreDarkCells m (row % (m.region_rows + 2)) x
  row_dark cells =
      subst (λ (k : ℕ). AreDarkCells m k x) place (subst (λ (t : SizeEntry). AreDarkCells t i x) e cells)

  -- So is what those of another row of these are.
  pub row_cells_by : (j : ℕ) → 1 ≤ i → i ≤ s.region_rows → 1 ≤ j → j ≤ s.region_rows → AreBorderCells s j x →
      AreBorderCells m (row % (m.region_rows + 2)) x
  row_cells_by j li ui lj uj cells =
      row_cells (λ c lc. cells c lc
      ∙ same_edges s.region_rows s.region_columns i j (c % (s.region_columns + 2)) li ui lj uj)

  pub row_dark_by : (j : ℕ) → 1 ≤ i → i ≤ s.region_rows → 1 ≤ j → j ≤ s.region_rows → i % 2 ≡ j % 2 →
      AreDarkCells s j x → AreDarkCells m (row % (m.region_rows + 2)) x
  row_dark_by j li ui lj uj same cells =
      row_dark (λ c lc. cells c lc
      ∙ ap (λ (b : Bool). b && edge_is_dark s.region_rows j (c % (s.region_columns + 2)))
      (same_edges s.region_rows s.region_columns i j (c % (s.region_columns + 2)) li ui lj uj)
      ∙ ap (λ (b : Bool). is_on_edge s.region_rows s.region_columns i (c % (s.region_columns + 2)) && b)
      (same_dark_edges s.region_rows i j (c % (s.region_columns + 2)) li ui lj uj same))

-- In the first of these rows the border cells are the left and right ones of the regions, and all are to be dark.
side_cells : (n c column : ℕ) → 6 ≤ n → (nat_eq column 0 || nat_eq column (c + 1)) ≡ is_on_edge n c 1 column
side_cells n c column l = grind (arith, nat_tests)

side_dark : (n c column : ℕ) → 6 ≤ n →
    (nat_eq column 0 || nat_eq column (c + 1)) ≡ (is_on_edge n c 1 column && edge_is_dark n 1 column)
side_dark n c column l = grind (arith, nat_tests)

-- In the second the left ones are.
left_dark : (n c column : ℕ) → 6 ≤ n → nat_eq column 0 ≡ (is_on_edge n c 2 column && edge_is_dark n 2 column)
left_dark n c column l = grind (arith, nat_tests)

module _ (size : SizeEntry) (last left both even all : ℕ) (b : AreBorders size last left both even all) where
  pub sides_are : AreBorderCells size 1 both
  sides_are c l =
      b.both_columns c l
      ∙ side_cells size.region_rows size.region_columns (c % (size.region_columns + 2))
      (size_facts size b.entry).least_rows

  pub sides_dark : AreDarkCells size 1 both
  sides_dark c l =
      b.both_columns c l
      ∙ side_dark size.region_rows size.region_columns (c % (size.region_columns + 2))
      (size_facts size b.entry).least_rows

  pub left_sides_dark : AreDarkCells size 2 left
  left_sides_dark c l =
      b.left_columns c l
      ∙ left_dark size.region_rows size.region_columns (c % (size.region_columns + 2))
      (size_facts size b.entry).least_rows
