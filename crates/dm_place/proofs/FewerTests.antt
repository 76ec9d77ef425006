-- The shapes of a mapping matrix by fewer tests: the anchors of one sum lie all in even rows or all in odd ones, and a
-- sum that isn't a multiple of 4 has none.
use Rattle.std.proofs.lemmas.Bool.Decides.{nat_tests}
use Rattle.std.proofs.Common.{◌≡◌, ℕ, ◌+◌, ◌-◌, ◌*◌, ◌%◌, ◌<◌, ◌≤◌, Bool, true, false, nat_eq, List, [], ◌∷◌, ◌++◌}
use Rattle.std.proofs.Common.{flat_map, refl, ap, ◌∙◌, arith}
use Rattle.std.specs.List.{range_with_len}
use Rattle.std.proofs.lemmas.Bool.{and_parts, eqb-true, eqb-false, leb-true, ltb-true}
use Rattle.dm_place.specs.declared.shape.Shape.{Shape}
use Rattle.dm_place.specs.declared.shape.Shape.TheVariants.{Standard}
use Rattle.dm_place.specs.Placement.{shapes, shapes_of_sum, corner_before, in_even_row, in_odd_row, is_anchor}

-- These are the shapes of sum s, where rows are tested only if an anchor of this sum may lie in them.
abbrev few_of_sum : ℕ → ℕ → ℕ → List Shape
few_of_sum rows columns s =
    corner_before rows columns s
    ++ elim (nat_eq (s % 8) 4) [ true ↦ flat_map (in_even_row rows columns s) (range_with_len 0 columns) | false ↦ [] ]
    ++ elim (nat_eq (s % 8) 0) [ true ↦ flat_map (in_odd_row rows columns s) (range_with_len 0 rows) | false ↦ [] ]

-- These are the shapes of a mapping matrix, by few tests.
unfoldable pub few_shapes : ℕ → ℕ → List Shape
few_shapes rows columns = flat_map (few_of_sum rows columns) (range_with_len 0 (rows + columns - 1))

-- Where each part of a list is empty, so is the list.
pub none_of : (f : ℕ → List Shape) (xs : List ℕ) → ((x : ℕ) → f x ≡ []) → flat_map f xs ≡ []
none_of f [] h = refl
none_of f (x ∷ xs) h = ap (λ (ys : List Shape). ys ++ flat_map f xs) (h x) ∙ none_of f xs h

-- Where two lists agree in each part, they are equal.
same_parts : (f g : ℕ → List Shape) (xs : List ℕ) → ((x : ℕ) → f x ≡ g x) → flat_map f xs ≡ flat_map g xs
same_parts f g [] h = refl
same_parts f g (x ∷ xs) h =
    ap (λ (ys : List Shape). ys ++ flat_map f xs) (h x) ∙ ap (λ (ys : List Shape). g x ++ ys) (same_parts f g xs h)

-- What a test guards is nothing, if it is empty where the test passes.
guarded : (t : Bool) (xs : List Shape) → (t ≡ true → xs ≡ []) →
    elim t as (λ _. List Shape) [ true ↦ xs | false ↦ [] ] ≡ []
guarded true xs h = h refl
guarded false xs h = refl

-- The tests of an anchor that pass say where it lies and what 5r + c leaves when divided by 8.
anchor_parts : (rows columns r c : ℕ) → is_anchor rows columns r c ≡ true →
    (r < rows) × (c < columns) × ((5 * r + c) % 8 ≡ 4)
anchor_parts rows columns r c h = grind (arith, nat_tests, and_parts, ltb-true, eqb-true)

-- A standard shape stands at each anchor, and none at any other cell.
abbrev shape_at : ℕ → ℕ → ℕ → ℕ → List Shape
shape_at rows columns r c = elim (is_anchor rows columns r c) [ true ↦ Standard r c ∷ [] | false ↦ [] ]

-- A cell where 5r + c doesn't leave 4 when divided by 8 has no shape.
no_shape : (rows columns r c : ℕ) → ((5 * r + c) % 8 ≡ 4 → ⊥) → shape_at rows columns r c ≡ []
no_shape rows columns r c f =
    guarded (is_anchor rows columns r c) _ (λ h. absurd (f (anchor_parts rows columns r c h).2))

-- A sum that doesn't leave 4 when divided by 8 has no anchor in an even row.
pub none_even : (rows columns s c : ℕ) → (s % 8 ≡ 4 → ⊥) → in_even_row rows columns s c ≡ []
none_even rows columns s c f = grind (arith, nat_tests, guarded, and_parts, leb-true, eqb-true, no_shape)

-- A sum that isn't a multiple of 8 has no anchor in an odd row.
pub none_odd : (rows columns s r : ℕ) → (s % 8 ≡ 0 → ⊥) → in_odd_row rows columns s r ≡ []
none_odd rows columns s r f = grind (arith, nat_tests, guarded, and_parts, leb-true, eqb-true, no_shape)

-- A cell outside the matrix has no shape.
outside : (rows columns r c : ℕ) → (r < rows → c < columns → ⊥) → shape_at rows columns r c ≡ []
outside rows columns r c f = grind (arith, nat_tests, guarded, anchor_parts)

-- A sum has no anchor in an even row and in a column past its last even one or before its first.
pub none_in_column : (rows columns s c : ℕ) → (c ≤ s → (s - c) % 2 ≡ 0 → rows + c ≤ s) →
    in_even_row rows columns s c ≡ []
none_in_column rows columns s c f = grind (arith, nat_tests, guarded, and_parts, leb-true, eqb-true, outside)

-- A sum has no anchor in an odd row past its last one or before its first.
pub none_in_row : (rows columns s r : ℕ) → (r ≤ s → r % 2 ≡ 1 → columns + r ≤ s) → in_odd_row rows columns s r ≡ []
none_in_row rows columns s r f = grind (arith, nat_tests, guarded, and_parts, leb-true, eqb-true, outside)

-- Where a list is empty if a test fails, the choice between it and the empty list is the list.
chosen : (t : Bool) (xs : List Shape) → (t ≡ false → xs ≡ []) →
    xs ≡ elim t as (λ _. List Shape) [ true ↦ xs | false ↦ [] ]
chosen true xs h = refl
chosen false xs h = h refl

-- The shapes of a sum are found by few tests.
same_of_sum : (rows columns s : ℕ) → shapes_of_sum rows columns s ≡ few_of_sum rows columns s
same_of_sum rows columns s =
    let evens : List Shape = flat_map (in_even_row rows columns s) (range_with_len 0 columns) in
    let odds : List Shape = flat_map (in_odd_row rows columns s) (range_with_len 0 rows) in
    let a =
    chosen (nat_eq (s % 8) 4) evens (λ h. none_of (in_even_row rows columns s) (range_with_len 0 columns)
    (λ c. none_even rows columns s c (eqb-false (s % 8) 4 h))) in
    let b =
    chosen (nat_eq (s % 8) 0) odds (λ h. none_of (in_odd_row rows columns s) (range_with_len 0 rows)
    (λ r. none_odd rows columns s r (eqb-false (s % 8) 0 h))) in
    ap (λ (xs : List Shape). corner_before rows columns s ++ xs ++ odds) a
    ∙ ap (λ (xs : List Shape). corner_before rows columns s
    ++ elim (nat_eq (s % 8) 4) as (λ _. List Shape) [ true ↦ evens | false ↦ [] ] ++ xs) b

-- The shapes of a mapping matrix are found by few tests.
pub shapes-few : (rows columns : ℕ) → shapes rows columns ≡ few_shapes rows columns
unfolding shapes few_shapes
shapes-few rows columns =
    same_parts (shapes_of_sum rows columns) (few_of_sum rows columns) (range_with_len 0 (rows + columns - 1))
    (same_of_sum rows columns)
