-- Which lane is the least, and which lanes are no greater than others.
use Rattle.dm_words.proofs.Names.{◌≡◌, ℕ, zero, suc, ◌+◌, ◌%◌, ◌^◌, ◌<◌, List, [], ◌∷◌, length, get_or, map, refl, sym}
use Rattle.dm_words.proofs.Names.{ap, subst, ◌∙◌, arith, Bool, true, false, not, cond, eqb, leb, ltb, w16, inl, inr}
use Rattle.dm_words.proofs.Names.{replicate, nat_le, min, zip2, top, sel_l, cases_lt, eqb-true, nat_tests}
use Rattle.dm_words.proofs.Names.{tops_compared, has_bit, least_of}
use Rattle.std.specs.List.{prefix_len}
use lib.Count.{count_trailing_zeros}
use lib.Lanes.{mask_l}
use Rattle.std.proofs.lemmas.Simd.{mask_l-lt, mask_l-mod, bit_mask_l, get_or-zip2, length-zip2, bitmask_splat}
use Rattle.std.proofs.lemmas.Simd.{trailing_mask_l, leading_from_mask_l}
use Rattle.std.proofs.lemmas.List.Sums.{prefix_len_passes}

-- ---- the least

-- What is so of both is so of the lesser.
either : (P : ℕ → Type 0) (a b : ℕ) → P a → P b → P (min a b)
either P a b pa pb = grind (arith, nat_tests, cases_lt, min)

-- A number stands at some place of a list.
abbrev Stands : List ℕ → ℕ → Type 0
Stands xs m = (k : ℕ) × (k < length xs) × (get_or xs k 0 ≡ m)

-- The least of eight numbers is one of them.
least_stands : (a b c d e f g h : ℕ) → Stands (a ∷ b ∷ c ∷ d ∷ e ∷ f ∷ g ∷ h ∷ [])
    (least_of (a ∷ b ∷ c ∷ d ∷ e ∷ f ∷ g ∷ h ∷ []))
least_stands a b c d e f g h =
    let P : ℕ → Type 0 = Stands (a ∷ b ∷ c ∷ d ∷ e ∷ f ∷ g ∷ h ∷ []) in
    either P (min (min a e) (min c g)) (min (min b f) (min d h))
    (either P (min a e) (min c g) (either P a e (0, omega arith, refl) (4, omega arith, refl))
    (either P c g (2, omega arith, refl) (6, omega arith, refl)))
    (either P (min b f) (min d h) (either P b f (1, omega arith, refl) (5, omega arith, refl))
    (either P d h (3, omega arith, refl) (7, omega arith, refl)))

-- So is that of a list of eight.
least_in : (xs : List ℕ) → length xs ≡ 8 → Stands xs (least_of xs)
least_in (a ∷ b ∷ c ∷ d ∷ e ∷ f ∷ g ∷ h ∷ []) long = least_stands a b c d e f g h
least_in xs long = absurd (omega (arith, long))

-- It isn't greater than the second.
pub least_small : (xs : List ℕ) (most : ℕ) → length xs ≡ 8 → get_or xs 1 0 < most → least_of xs < most
least_small xs most h1 h2 = grind (arith, nat_tests)

-- A number stands first behind all others, or, where the first one isn't it, so far behind that.
abbrev StandsFirst : ℕ → List ℕ → ℕ → Bool → Type 0
StandsFirst x xs m t =
    let r = cond (not t) (1 + prefix_len (λ y. not (eqb y m)) xs) 0 in
    (r < length (x ∷ xs)) × (get_or (x ∷ xs) r 0 ≡ m)

-- Where a number stands somewhere, it stands first behind all others.
first_stands : (xs : List ℕ) (m k : ℕ) → k < length xs → get_or xs k 0 ≡ m
    → let r = prefix_len (λ x. not (eqb x m)) xs in (r < length xs) × (get_or xs r 0 ≡ m)
first_stands [] m k there is = absurd (omega (arith, there))
first_stands (x ∷ xs) m zero there is =
    let same : eqb x m ≡ true = (let e : x ≡ m = is in grind (arith, nat_tests)) in
    subst (StandsFirst x xs m) (sym same) (omega arith, is)
first_stands (x ∷ xs) m (suc k) there is =
    by_test (eqb x m) refl (first_stands xs m k (omega (arith, there)) is) where
      by_test : (t : Bool) → eqb x m ≡ t
          → (let r = prefix_len (λ y. not (eqb y m)) xs in (r < length xs) × (get_or xs r 0 ≡ m))
          → StandsFirst x xs m t
      by_test true e f = (omega arith, eqb-true x m e)
      by_test false e f =
          let r = prefix_len (λ y. not (eqb y m)) xs in
          let e : suc r ≡ 1 + r = omega arith in
          let there : get_or (x ∷ xs) (suc r) 0 ≡ m = f.1 in
          (omega (arith, f.0), subst (λ (n : ℕ). get_or (x ∷ xs) n 0 ≡ m) e there)

-- Before that it doesn't stand.
first_before : (xs : List ℕ) (m k : ℕ) → k < prefix_len (λ x. not (eqb x m)) xs → get_or xs k 0 ≡ m → ⊥
first_before xs m k h1 h2 = grind (arith, nat_tests, prefix_len_passes)

-- The lowest bit of a comparison of eight numbers with the least is the first place where it stands.
pub least_place : (xs : List ℕ) (m : ℕ) → length xs ≡ 8 → m ≡ least_of xs
    → let r = count_trailing_zeros 64
    (mask_l (map (top 15) (zip2 (λ a b. cond (eqb a b) 65535 0) xs (replicate 8 m))) % 18446744073709551616) in
    (r < 8) × (get_or xs r 0 ≡ m) × ((k : ℕ) → k < r → get_or xs k 0 ≡ m → ⊥)
least_place xs m long is =
    let s = least_in xs long in
    let f = first_stands xs m s.0 s.1 (s.2 ∙ sym is) in
    let mask = mask_l (map (λ x. eqb x m) xs) in
    let masked : mask_l (map (top 15) (zip2 (λ a b. cond (eqb a b) 65535 0) xs (replicate 8 m))) % 18446744073709551616
    ≡ mask = bitmask_splat w16 eqb xs 8 m long (omega arith) in
    let some : 0 < mask = elim (cases_lt 0 mask) [
      | inl lt ↦ lt
      | inr le ↦ (let none : mask ≡ 0 = omega (arith, le) in
          absurd (omega (arith, f.0, leading_from_mask_l (λ x. eqb x m) xs none)))
    ] in
    let place : count_trailing_zeros 64 mask ≡ prefix_len (λ x. not (eqb x m)) xs =
    trailing_mask_l (λ x. eqb x m) 64 xs (omega (arith, long)) some in
    let P : ℕ → Type 0 = λ r. (r < 8) × (get_or xs r 0 ≡ m) × ((k : ℕ) → k < r → get_or xs k 0 ≡ m → ⊥) in
    subst P (sym (ap (count_trailing_zeros 64) masked ∙ place)) (omega (arith, f.0, long), f.1, first_before xs m)

-- ---- the ends

-- The bits of a comparison of eight numbers with eight others.
compared : List ℕ → List ℕ → ℕ
compared xs ys = mask_l (map (top 15) (zip2 (λ a b. cond (leb a b) 65535 0) xs ys)) % 18446744073709551616

compared_is : (xs ys : List ℕ) → length xs ≡ 8 → length ys ≡ 8 → compared xs ys ≡ mask_l (zip2 leb xs ys)
unfolding compared
compared_is xs ys long other =
    ap (λ (l : List Bool). mask_l l % 18446744073709551616) (tops_compared w16 leb xs ys)
    ∙ mask_l-mod (zip2 leb xs ys) 64 (omega (arith, length-zip2 leb xs ys (long ∙ sym other), long))

-- They are below 256.
pub compared_fits : (xs ys : List ℕ) → length xs ≡ 8 → length ys ≡ 8
    → mask_l (map (top 15) (zip2 (λ a b. cond (leb a b) 65535 0) xs ys)) % 18446744073709551616 < 256
unfolding compared
compared_fits xs ys long other = grind (arith, mask_l, length-zip2, mask_l-lt, compared_is)

-- Each bit tells of its lane.
pub compared_bit : (xs ys : List ℕ) → length xs ≡ 8 → length ys ≡ 8 → (k : ℕ) → k < 8
    → has_bit (2 ^ k) (mask_l (map (top 15) (zip2 (λ a b. cond (leb a b) 65535 0) xs ys)) % 18446744073709551616)
    ≡ nat_le (get_or xs k 0) (get_or ys k 0)
unfolding compared
compared_bit xs ys h1 h2 k h3 = grind (arith, nat_tests, has_bit, compared_is, bit_mask_l, get_or-zip2)

-- ---- the lesser

lesser_is : (a b : ℕ) → cond (top 15 (cond (ltb a b) 65535 0)) a b ≡ min a b
lesser_is a b = grind (arith, nat_tests)

-- The lesser number of each lane is selected.
pub lesser_each : (xs ys : List ℕ)
    → sel_l (map (top 15) (zip2 (λ a b. cond (ltb a b) 65535 0) xs ys)) xs ys ≡ zip2 min xs ys
lesser_each [] ys = refl
lesser_each (x ∷ xs) [] = refl
lesser_each (x ∷ xs) (y ∷ ys) = λ i. lesser_is x y i ∷ lesser_each xs ys i
