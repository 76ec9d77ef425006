-- The steps over the closed form.
use Rattle.std.proofs.lemmas.Bool.Decides.{nat_tests}
use Rattle.std.proofs.Common.{◌≡◌, ◌⊎◌, inl, inr, ℕ, zero, suc, ◌+◌, ◌-◌, ◌%◌, ◌<◌, ◌≤◌, List, [], ◌∷◌, ◌++◌, flat_map}
use Rattle.std.proofs.Common.{Bool, true, false, ◌&&◌, refl, ap, sym, ◌∙◌, arith, append_assoc}
use Rattle.std.specs.List.{range_with_len}
use Rattle.std.proofs.lemmas.Bool.{cases_lt, eqb-true}
use Rattle.dm_place.specs.declared.shape.Shape.{Shape}
use Rattle.dm_place.specs.declared.shapes.Part.{Part}
use Rattle.dm_place.specs.declared.shapes.Part.TheVariants.{Corner, Even, Odd}
use Rattle.dm_place.specs.Placement.{corner_before, in_even_row, in_odd_row, shapes_of_sum}
use Rattle.dm_place.proofs.FewerTests.{none_of, none_even, none_odd, none_in_column, none_in_row}
use Rattle.dm_place.specs.inner.Walking.{from_sum, left_at}

-- What a range gives begins with what its first number gives.
pub first_of : (f : ℕ → List Shape) (i n : ℕ) → i < n →
    flat_map f (range_with_len i (n - i)) ≡ f i ++ flat_map f (range_with_len (i + 1) (n - (i + 1)))
first_of f i n l = grind (arith, nat_tests, flat_map)

-- What a range gives is what is left of it where its first number gives nothing.
one_skipped : (f : ℕ → List Shape) (i n : ℕ) → f i ≡ [] →
    flat_map f (range_with_len i (n - i)) ≡ flat_map f (range_with_len (i + 1) (n - (i + 1)))
one_skipped f i n none = grind (arith, nat_tests, cases_lt, flat_map, first_of)

-- What a range gives is what is left of it where its next numbers give nothing.
skipped : (f : ℕ → List Shape) (k i n : ℕ) → ((c : ℕ) → i ≤ c → c < i + k → f c ≡ []) →
    flat_map f (range_with_len i (n - i)) ≡ flat_map f (range_with_len (i + k) (n - (i + k)))
skipped f zero i n none =
    let e : i ≡ i + 0 = omega arith in
    ap (λ (j : ℕ). flat_map f (range_with_len j (n - j))) e
skipped f (suc k) i n none =
    let e : i + 1 + k ≡ i + suc k = omega arith in
    one_skipped f i n (none i (omega arith) (omega arith))
    ∙ skipped f k (i + 1) n (λ c a b. none c (omega (arith, a)) (omega (arith, b)))
    ∙ ap (λ (j : ℕ). flat_map f (range_with_len j (n - j))) e

-- Four lists one after the other.
joined : (a b c d : List Shape) → a ++ b ++ c ++ d ≡ a ++ (b ++ c ++ d)
joined a b c d =
    append_assoc (a ++ b) c d ∙ append_assoc a b (c ++ d) ∙ ap (λ (xs : List Shape). a ++ xs) (sym (append_assoc b c d))

-- The shapes of a sum: its corner, and then its anchors in even rows or in odd ones.
split : (rows columns s : ℕ) (o evens odds : List Shape) → s + 1 < rows + columns → o ≡ corner_before rows columns s →
    flat_map (in_even_row rows columns s) (range_with_len 0 columns) ≡ evens →
    flat_map (in_odd_row rows columns s) (range_with_len 0 rows) ≡ odds →
    from_sum rows columns s ≡ o ++ (evens ++ odds ++ from_sum rows columns (s + 1))
split rows columns s o evens odds l e f g = grind (arith, nat_tests, first_of, joined, flat_map)

-- A list with nothing behind it is the list.
nothing_after : (xs : List Shape) → xs ++ [] ≡ xs
nothing_after [] = refl
nothing_after (x ∷ xs) = ap (λ (ys : List Shape). x ∷ ys) (nothing_after xs)

-- Where the sum leaves 4 when divided by 8, its corner comes first, and then its anchors in even rows, from the first
-- even column on in which one may lie.
pub corner_even : (rows columns s i first : ℕ) (p : Part) (o : List Shape) → p ≡ Corner → s + 1 < rows + columns →
    o ≡ corner_before rows columns s → s % 8 ≡ 4 → ((c : ℕ) → c < first → c % 2 ≡ 0 → rows + c ≤ s) →
    left_at rows columns s p i ≡ o ++ left_at rows columns s Even first
corner_even rows columns s i first p o is l e four before =
    let z : columns ≡ columns - 0 = omega arith in
    let none : 0 + first ≡ first = omega arith in
    let evens : List Shape = flat_map (in_even_row rows columns s) (range_with_len 0 columns) in
    ap (λ (q : Part). left_at rows columns s q i) is
    ∙ split rows columns s o evens [] l e refl (none_of (in_odd_row rows columns s) (range_with_len 0 rows)
    (λ r. none_odd rows columns s r (λ (h : s % 8 ≡ 0). omega (arith, h, four))))
    ∙ ap (λ (xs : List Shape). o ++ (xs ++ from_sum rows columns (s + 1))) (nothing_after evens)
    ∙ ap (λ (k : ℕ). o ++ (flat_map (in_even_row rows columns s) (range_with_len 0 k) ++ from_sum rows columns (s + 1)))
    z
    ∙ ap (λ (xs : List Shape). o ++ (xs ++ from_sum rows columns (s + 1)))
    (skipped (in_even_row rows columns s) first 0 columns (λ c _ b.
    none_in_column rows columns s c (λ k m. before c (omega (arith, b)) (omega (arith, k, m, four))))
    ∙ ap (λ (j : ℕ). flat_map (in_even_row rows columns s) (range_with_len j (columns - j))) none)

-- Where the sum is a multiple of 8, its corner comes first, and then its anchors in odd rows, from the first odd row on
-- in which one may lie.
pub corner_odd : (rows columns s i first : ℕ) (p : Part) (o : List Shape) → p ≡ Corner → s + 1 < rows + columns →
    o ≡ corner_before rows columns s → s % 8 ≡ 0 → ((r : ℕ) → r < first → r % 2 ≡ 1 → columns + r ≤ s) →
    left_at rows columns s p i ≡ o ++ left_at rows columns s Odd first
corner_odd rows columns s i first p o is l e zero_left before =
    let z : rows ≡ rows - 0 = omega arith in
    let none : 0 + first ≡ first = omega arith in
    ap (λ (q : Part). left_at rows columns s q i) is
    ∙ split rows columns s o [] (flat_map (in_odd_row rows columns s) (range_with_len 0 rows)) l e
    (none_of (in_even_row rows columns s) (range_with_len 0 columns)
    (λ c. none_even rows columns s c (λ (h : s % 8 ≡ 4). omega (arith, h, zero_left)))) refl
    ∙ ap (λ (k : ℕ). o ++ (flat_map (in_odd_row rows columns s) (range_with_len 0 k) ++ from_sum rows columns (s + 1)))
    z
    ∙ ap (λ (xs : List Shape). o ++ (xs ++ from_sum rows columns (s + 1)))
    (skipped (in_odd_row rows columns s) first 0 rows (λ r _ b.
    none_in_row rows columns s r (λ k m. before r (omega (arith, b)) m))
    ∙ ap (λ (j : ℕ). flat_map (in_odd_row rows columns s) (range_with_len j (rows - j))) none)

-- Three tests fail together where the first and the last can't both pass.
not_both : (a b c : Bool) → (a ≡ true → c ≡ true → ⊥) → (a && b && c) ≡ false
not_both x b c f = grind (arith, nat_tests)

-- No corner comes before the anchors of a sum that isn't a multiple of 4.
no_corner : (rows columns s : ℕ) → 6 ≤ rows → (s % 4 ≡ 0 → ⊥) → corner_before rows columns s ≡ []
no_corner rows columns s low f = grind (arith, nat_tests, not_both, eqb-true)

-- A sum that isn't a multiple of 4 has no shapes.
no_shapes : (rows columns s : ℕ) → 6 ≤ rows → (s % 4 ≡ 0 → ⊥) → shapes_of_sum rows columns s ≡ []
no_shapes rows columns s low f = grind (arith, nat_tests, none_of, none_even, none_odd, no_corner)

-- After a sum that is a multiple of 4 the next one that has shapes is four further.
pub next_sum : (rows columns s : ℕ) → 6 ≤ rows → s % 4 ≡ 0 →
    from_sum rows columns (s + 1) ≡ from_sum rows columns (s + 4)
next_sum rows columns s low four =
    let e : s + 1 + 3 ≡ s + 4 = omega arith in
    skipped (shapes_of_sum rows columns) 3 (s + 1) (rows + columns - 1)
    (λ t a b. no_shapes rows columns t low (λ h. omega (arith, a, b, h, four)))
    ∙ ap (from_sum rows columns) e

-- What a range gives begins with what its first number gives, and goes on behind the next one if that gives nothing.
step_of : (f : ℕ → List Shape) (i n : ℕ) (o rest : List Shape) → i < n →
    ((c : ℕ) → i + 1 ≤ c → c < i + 1 + 1 → f c ≡ []) → o ≡ f i →
    flat_map f (range_with_len i (n - i)) ++ rest ≡ o ++ (flat_map f (range_with_len (i + 2) (n - (i + 2))) ++ rest)
step_of f i n o rest l none e = grind (arith, nat_tests, first_of, skipped, append_assoc)

-- It gives nothing if it has ended, or if all its numbers give nothing.
end_of : (f : ℕ → List Shape) (i n : ℕ) (rest : List Shape) → (n ≤ i) ⊎ ((c : ℕ) → i ≤ c → f c ≡ []) →
    flat_map f (range_with_len i (n - i)) ++ rest ≡ rest
end_of f i n rest (inl l) = let z : n - i ≡ 0 = omega (arith, l) in rw z
end_of f i n rest (inr none) = let z : n - (i + n) ≡ 0 = omega arith in rw (skipped f n i n (λ c a _. none c a), z)

-- Among the anchors in even rows that of an even column comes first, if there is one, and then those of the next even
-- columns.
pub even_step : (rows columns s i : ℕ) (p : Part) (o : List Shape) → p ≡ Even → i < columns → i % 2 ≡ 0 →
    s % 8 ≡ 4 → o ≡ in_even_row rows columns s i →
    left_at rows columns s p i ≡ o ++ left_at rows columns s p (i + 2)
even_step rows columns s i p o is l even four e = grind (arith, nat_tests, step_of, none_in_column)

-- Past the last column, and past that of the row at the top, only the shapes of larger sums are left.
pub even_end : (rows columns s i : ℕ) (p : Part) → p ≡ Even → (columns ≤ i) ⊎ (s < i) →
    left_at rows columns s p i ≡ from_sum rows columns (s + 1)
even_end rows columns s i p is past = grind (arith, nat_tests, end_of, none_in_column)

-- Among the anchors in odd rows that of an odd row comes first, if there is one, and then those of the next odd rows.
pub odd_step : (rows columns s i : ℕ) (p : Part) (o : List Shape) → p ≡ Odd → i < rows → i % 2 ≡ 1 →
    o ≡ in_odd_row rows columns s i → left_at rows columns s p i ≡ o ++ left_at rows columns s p (i + 2)
odd_step rows columns s i p o is l odd e = grind (arith, nat_tests, step_of, none_in_row)

-- Past the last row, and past that of the column at the left, only the shapes of larger sums are left.
pub odd_end : (rows columns s i : ℕ) (p : Part) → p ≡ Odd → (rows ≤ i) ⊎ (s < i) →
    left_at rows columns s p i ≡ from_sum rows columns (s + 1)
odd_end rows columns s i p is past = grind (arith, nat_tests, end_of, none_in_row)
