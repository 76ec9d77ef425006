-- Widened rows that are folded back into the matrix.
use Rattle.dm_layout.proofs.Names.{nat_tests, ◌≡◌, ◌⊎◌, inl, inr, ℕ, ◌+◌, ◌-◌, ◌*◌, ◌%◌, ◌<◌, ◌≤◌, Bool, true, false}
use Rattle.dm_layout.proofs.Names.{◌&&◌, ◌||◌, nat_eq, nat_le, nat_lt, refl, ◌∙◌, ap, subst, sym, arith, Decides}
use Rattle.dm_layout.proofs.Names.{and-or_distrib_left, le-leb, leb-true, ltb-true, ltb-false, lt-leb, cases_lt}
use Rattle.dm_layout.proofs.Names.{Decides-and, Decides-or, Decides-like, same_from_decides, wrapped_cell, lowered}
use Rattle.dm_layout.proofs.Names.{moved_in, folded, round}
use Rattle.std.proofs.lemmas.Bool.Decides.{Decides-eqb, Decides-ltb}
use Rattle.dm_place.specs.Placement.{wrapped_at_top_and_left}
use Rattle.dm_layout.proofs.symbols.LiftedWords.{cell_by, lowered_row, lowered_column}

-- ---- what is dark in one of two pictures

-- Where each of two cells is one of two, laying one cell over the other lays over each of the two.
spread : (t a b x y : Bool) → ((a || b) || t && (x || y)) ≡ ((a || t && x) || (b || t && y))
spread x y b z w = grind (arith, nat_tests)

lowered_or : (R : ℕ) (f g : ℕ → ℕ → Bool) (r c : ℕ) →
    lowered R (λ i j. f i j || g i j) r c ≡ (lowered R f r c || lowered R g r c)
lowered_or R f g r c = grind (arith, nat_tests, and-or_distrib_left, spread)

moved_or : (R C : ℕ) (f g : ℕ → ℕ → Bool) (r c : ℕ) →
    moved_in R C (λ i j. f i j || g i j) r c ≡ (moved_in R C f r c || moved_in R C g r c)
moved_or R C f g r c = grind (arith, nat_tests, lowered_or, and-or_distrib_left, spread)

-- Folding two pictures together is folding each of them.
pub folded_or : (R C : ℕ) (f g : ℕ → ℕ → Bool) (r c : ℕ) →
    folded R C (λ i j. f i j || g i j) r c ≡ (folded R C f r c || folded R C g r c)
folded_or R C f g r c = grind (arith, nat_tests, moved_or, spread)

-- ---- pictures that are the same

lowered_same : (R width : ℕ) (f g : ℕ → ℕ → Bool) (r c : ℕ) → c + 4 ≤ width → ((i j : ℕ) → j < width → f i j ≡ g i j) →
    lowered R f r c ≡ lowered R g r c
lowered_same R width f g r c l same = grind (arith, nat_tests)

moved_same : (R C width : ℕ) (f g : ℕ → ℕ → Bool) (r c : ℕ) → c + 4 ≤ width → ((i j : ℕ) → j < width → f i j ≡ g i j) →
    moved_in R C f r c ≡ moved_in R C g r c
moved_same R C width f g r c l same = grind (arith, nat_tests, lowered_same)

-- Pictures that agree in the columns that there are are folded alike.
pub folded_same : (R C width : ℕ) (f g : ℕ → ℕ → Bool) (r c : ℕ) → c < C → C + 8 ≤ width →
    ((i j : ℕ) → j < width → f i j ≡ g i j) → folded R C f r c ≡ folded R C g r c
folded_same R C width f g r c l fits same = grind (arith, nat_tests, moved_same)

-- A picture without a dark cell, folded, has none.
pub folded_none : (R C r c : ℕ) → folded R C (λ i j. false) r c ≡ false
folded_none R C r c = grind (arith, nat_tests)

-- ---- one cell

-- The picture in which just one cell is dark.
abbrev pub one_cell : ℕ → ℕ → ℕ → ℕ → Bool
one_cell a b r c = nat_eq r a && nat_eq c b

-- The cell at row r, column c is the one at row a, column b.
abbrev pub IsCell : ℕ → ℕ → ℕ → ℕ → Type 0
IsCell a b r c = (r ≡ a) × (c ≡ b)

-- The cell is this one, or this one is laid over it from above.
abbrev IsLowered : ℕ → ℕ → ℕ → ℕ → ℕ → ℕ → Type 0
IsLowered R s a b r c = IsCell a b r c ⊎ (((R ≤ r) × (r < R + 2)) × ((4 ≤ c + s) × IsCell a b (r - R) (c + s - 4)))

-- The cell is this one, or this one is laid over it from above, from the left or from both.
abbrev IsMovedIn : ℕ → ℕ → ℕ → ℕ → ℕ → ℕ → ℕ → ℕ → Type 0
IsMovedIn R C s d a b r c =
    IsLowered R s a b r c ⊎ (((C ≤ c) × (c < C + 4))
    × (((8 ≤ r + d) × (r + d < R + 2 + 4)) × IsLowered R s a b (r + d - 4) (c - C)))

-- The cell of the matrix is this one, or this one is laid over it so, or from below.
abbrev IsFolded : ℕ → ℕ → ℕ → ℕ → ℕ → ℕ → ℕ → ℕ → Type 0
IsFolded R C s d a b r c =
    IsMovedIn R C s d a b (r + 2) (c + 4) ⊎ (((2 ≤ r + 2) × (r + 2 < 6)) × IsMovedIn R C s d a b (r + 2 + R) (c + 4))

pub decides_le : (a b : ℕ) → Decides (nat_le a b) (a ≤ b)
decides_le a b = (leb-true a b, le-leb a b)

pub decides_cell : (a b r c : ℕ) → Decides (one_cell a b r c) (IsCell a b r c)
decides_cell a b r c = Decides-and (nat_eq r a) (nat_eq c b) (Decides-eqb r a) (Decides-eqb c b)

decides_lowered : (R a b r c : ℕ) → Decides (lowered R (one_cell a b) r c) (IsLowered R ((R + 4) % 8) a b r c)
decides_lowered R a b r c = grind (arith, nat_tests, decides_cell, decides_le)

decides_moved : (R C a b r c : ℕ) → Decides (moved_in R C (one_cell a b) r c)
    (IsMovedIn R C ((R + 4) % 8) ((C + 4) % 8) a b r c)
decides_moved R C a b r c =
    Decides-or _ _ (decides_lowered R a b r c)
    (Decides-and _ _ (Decides-and _ _ (decides_le C c) (Decides-ltb c (C + 4)))
    (Decides-and _ _ (Decides-and _ _ (decides_le 8 (r + (C + 4) % 8)) (Decides-ltb (r + (C + 4) % 8) (R + 2 + 4)))
    (decides_lowered R a b (r + (C + 4) % 8 - 4) (c - C))))

decides_folded : (R C a b r c : ℕ) → Decides (folded R C (one_cell a b) r c)
    (IsFolded R C ((R + 4) % 8) ((C + 4) % 8) a b r c)
decides_folded R C a b r c =
    Decides-or _ _ (decides_moved R C a b (r + 2) (c + 4))
    (Decides-and _ _ (Decides-and _ _ (decides_le 2 (r + 2)) (Decides-ltb (r + 2) 6))
    (decides_moved R C a b (r + 2 + R) (c + 4)))

-- ---- to which cell of the matrix a cell is folded

-- Where a cell is folded to one cell of the matrix and to no other, its folded picture is that of this cell.
folds_to : (R C a b p q r c : ℕ) → (IsFolded R C ((R + 4) % 8) ((C + 4) % 8) a b r c → IsCell p q r c) →
    (IsCell p q r c → IsFolded R C ((R + 4) % 8) ((C + 4) % 8) a b r c) →
    folded R C (one_cell a b) r c ≡ one_cell p q r c
folds_to R C a b p q r c to from =
    same_from_decides (folded R C (one_cell a b) r c) (one_cell p q r c)
    (Decides-like (folded R C (one_cell a b) r c) to from (decides_folded R C a b r c)) (decides_cell p q r c)

-- What holds of a row that lies in the matrix, and of one below it that begins anew, holds of each.
by_round : (P : ℕ → Type 0) (R x : ℕ) → (x < R → P x) → (R ≤ x → P (x - R)) → P (round R x)
by_round P R x inside below = by_place (cases_lt x R)
  where
    by_place : (x < R) ⊎ (R ≤ x) → P (round R x)
    by_place y = grind (arith, nat_tests, lt-leb, inside, le-leb, below)

-- A cell of a standard shape is folded to where it wraps, whatever the three tests of its wrapping say.
fold_by : (R C i j up left a b r c : ℕ) (t u v : Bool) → 6 ≤ R → 6 ≤ C → R % 2 ≡ 0 → C % 2 ≡ 0 → i < R → j < C →
    (5 * i + j) % 8 ≡ 4 → up ≤ 2 → left ≤ 2 → a + up ≡ i + 2 → b + left ≡ j + 4 → r < R → c < C →
    nat_lt i up ≡ t → nat_lt (j + 4) (left + (R + 4) % 8) ≡ u → nat_lt j left ≡ v →
    (cell_by R C i j up left t u v).column < C →
    folded R C (one_cell a b) r c ≡
    one_cell (round R (cell_by R C i j up left t u v).row) (cell_by R C i j up left t u v).column r c
fold_by R C i j up left a b r c false u false some least even_rows even_columns li lj anchor lu ll ea eb lr lc e f g
    ic =
    let s : (R + 4) % 8 ≤ 6 = omega (arith, even_rows) in
    let d : (C + 4) % 8 ≤ 6 = omega (arith, even_columns) in
    let x = ltb-false i up e in
    let y = ltb-false j left g in
    by_round (λ p. folded R C (one_cell a b) r c ≡ one_cell p (j - left) r c) R (i - up)
    (λ h. folds_to R C a b (i - up) (j - left) r c (λ k. grind arith) (λ k. inl (inl (inl (omega arith)))))
    (λ h. absurd (omega (arith, h, li)))
fold_by R C i j up left a b r c false u true some least even_rows even_columns li lj anchor lu ll ea eb lr lc e f g ic =
    let s : (R + 4) % 8 ≤ 6 = omega (arith, even_rows) in
    let d : (C + 4) % 8 ≤ 6 = omega (arith, even_columns) in
    let x = ltb-false i up e in
    let y = ltb-true j left g in
    let low : 4 ≤ i = omega (arith, anchor, y, ll) in
    let p : a + 2 ≡ i + 4 - (up + (C + 4) % 8) + (C + 4) % 8 = omega (arith, x, ea, low, lu, d) in
    let q : b + C ≡ j + C - left + 4 = omega (arith, y, eb, ll, least) in
    by_round (λ p. folded R C (one_cell a b) r c ≡ one_cell p (j + C - left) r c) R (i + 4 - (up + (C + 4) % 8))
    (λ h. folds_to R C a b _ _ r c (λ k. grind arith) (λ k. inl (inr (omega arith, (omega arith, inl (omega arith))))))
    (λ h.
    let k : a + 2 ≡ i + 4 - (up + (C + 4) % 8) - R + R + (C + 4) % 8 = omega (arith, p, h) in
    folds_to R C a b _ _ r c (λ t. grind arith)
    (λ t. inr (omega arith, inr (omega arith, (omega arith, inl (omega arith))))))
fold_by R C i j up left a b r c true false v some least even_rows even_columns li lj anchor lu ll ea eb lr lc e f g ic =
    let s : (R + 4) % 8 ≤ 6 = omega (arith, even_rows) in
    let d : (C + 4) % 8 ≤ 6 = omega (arith, even_columns) in
    let x = ltb-true i up e in
    let y = ltb-false (j + 4) (left + (R + 4) % 8) f in
    let p : a + R ≡ i + R - up + 2 = omega (arith, x, lu, ea, some) in
    let q : b ≡ j + 4 - (left + (R + 4) % 8) + (R + 4) % 8 = omega (arith, y, eb) in
    by_round (λ p. folded R C (one_cell a b) r c ≡ one_cell p (j + 4 - (left + (R + 4) % 8)) r c) R (i + R - up)
    (λ h. folds_to R C a b _ _ r c (λ k. grind arith) (λ k. inl (inl (inr (omega arith)))))
    (λ h. absurd (omega (arith, h, x)))
fold_by R C i j up left a b r c true true v some least even_rows even_columns li lj anchor lu ll ea eb lr lc e f g ic =
    let s : (R + 4) % 8 ≤ 6 = omega (arith, even_rows) in
    let d : (C + 4) % 8 ≤ 6 = omega (arith, even_columns) in
    let x = ltb-true i up e in
    let y = ltb-true (j + 4) (left + (R + 4) % 8) f in
    let p : a + R + 2 ≡ i + R + 4 - (up + (C + 4) % 8) + (C + 4) % 8 = omega (arith, x, lu, ea, some, d) in
    let q : b + C ≡ j + 4 + C - (left + (R + 4) % 8) + (R + 4) % 8 = omega (arith, y, eb, ll, least, s) in
    by_round (λ p. folded R C (one_cell a b) r c ≡ one_cell p (j + 4 + C - (left + (R + 4) % 8)) r c) R
    (i + R + 4 - (up + (C + 4) % 8))
    (λ h. folds_to R C a b _ _ r c (λ k. grind arith) (λ k. inl (inr (omega arith, (omega arith, inr (omega arith))))))
    (λ h.
    let k : a + R + 2 ≡ i + R + 4 - (up + (C + 4) % 8) - R + R + (C + 4) % 8 = omega (arith, p, h) in
    folds_to R C a b _ _ r c (λ t. grind arith)
    (λ t. inr (omega arith, inr (omega arith, (omega arith, inr (omega arith))))))

-- A cell of a standard shape is folded to where the shape wraps.
pub folded_cell : (R C i j up left a b r c : ℕ) → 6 ≤ R → 6 ≤ C → R % 2 ≡ 0 → C % 2 ≡ 0 → i < R → j < C →
    (5 * i + j) % 8 ≡ 4 → up ≤ 2 → left ≤ 2 → a + up ≡ i + 2 → b + left ≡ j + 4 → r < R → c < C →
    (wrapped_cell R C i j up left).column < C →
    folded R C (one_cell a b) r c ≡
    one_cell (wrapped_cell R C i j up left).row (wrapped_cell R C i j up left).column r c
folded_cell R C i j up left a b r c some least even_rows even_columns li lj anchor lu ll ea eb lr lc ic =
    fold_by R C i j up left a b r c (nat_lt i up) (nat_lt (j + 4) (left + (R + 4) % 8)) (nat_lt j left) some least
    even_rows even_columns li lj anchor lu ll ea eb lr lc refl refl refl
    (subst (λ (k : ℕ). k < C) (lowered_column R (wrapped_at_top_and_left R C i j up left)) ic)
    ∙ ap (λ (k : ℕ). one_cell k (wrapped_at_top_and_left R C i j up left).column r c)
    (sym (lowered_row R (wrapped_at_top_and_left R C i j up left)))
    ∙ ap (λ (k : ℕ). one_cell (wrapped_cell R C i j up left).row k r c)
    (sym (lowered_column R (wrapped_at_top_and_left R C i j up left)))
