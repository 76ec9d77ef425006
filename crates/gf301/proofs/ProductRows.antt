-- The tables of products, and look-ups in them lane by lane.
use Rattle.std.proofs.Common.{◌≡◌, ℕ, zero, suc, ◌+◌, ◌-◌, ◌*◌, ◌/◌, ◌%◌, ◌^◌, ◌<◌, List, [], ◌∷◌, length, get_or, map}
use Rattle.std.proofs.Common.{take, drop, replicate, refl, sym, ap, ◌∙◌, arith, bit_xor, bit_and, Bool, true, ◌&&◌, eqb}
use Rattle.std.proofs.Common.{w8, Fits}
use Rattle.std.proofs.lemmas.Bool.{and_parts, eqb-true}
use Rattle.std.proofs.lemmas.List.{get_or-map, length-map, ext_get_or, take-take}
use Rattle.std.proofs.Math.Nat.{add-zero}
use Rattle.std.proofs.lemmas.Nat.{and_le_r, and_mask, mod_below, shr_split}
use Rattle.std.proofs.lemmas.Simd.{swz_l, SwzOk, SwzOk-from_below, length-swz_l, get_or-swz_l_below, Each1-from_get_or}
use Rattle.std.proofs.lemmas.Simd.{Each1-get_or, below_from_Fits, zip2_splat, zip2_of_maps, map-map}
use Rattle.std.proofs.lemmas.Simd.{length-zip2, get_or-chunk}
use lib.Bits.{xor_comm, xor_shifted}
use lib.Lanes.{zip2, Each1, chunk}
use Rattle.gf301.specs.Field.{◌⊕◌, ◌⊗◌, carryless, modulo_301}
use Rattle.gf301.specs.declared.product_rows.TheConstants.{LOW, HIGH}
use Rattle.gf301.proofs.FieldLaws.{product_sum_right}

-- Places below 16 may be looked up.
pub places_ok : (js : List ℕ) → length js ≡ 16 → ((k d : ℕ) → k < length js → get_or js k d < 16) → SwzOk w8 16 16 0 js
places_ok js long small =
    SwzOk-from_below w8 16 1 16 0 js refl (omega (arith, long))
    (Each1-from_get_or (λ j. j < 16) js 0 (λ i l. small i 0 l))

-- In each lane the number of the table at the place in this lane is looked up.
pub looked_up : (t js : List ℕ) → length js ≡ 16 → ((k d : ℕ) → k < length js → get_or js k d < 16) →
    swz_l w8 16 t 0 js ≡ map (λ i. get_or t i 0) js
looked_up t js long small =
    ext_get_or 0 _ _ (length-swz_l w8 16 t 0 js ∙ sym (length-map js (λ i. get_or t i 0))) (λ i h.
    let lt : i < length js = omega (arith, length-swz_l w8 16 t 0 js) in
    let block : 16 * ((0 + i) / 16) + get_or js i 0 ≡ get_or js i 0 = omega (arith, long) in
    get_or-swz_l_below w8 16 t 0 js i lt (small i 0 lt)
    ∙ ap (λ k. get_or t k 0) block
    ∙ sym (get_or-map (λ i. get_or t i 0) js i 0 0 lt))

-- ---- the tables
-- The numbers of a list are those of a function from a place on.
unfoldable table_test : (ℕ → ℕ) → ℕ → List ℕ → Bool
table_test f n [] = true
table_test f n (y ∷ ys) = eqb y (f n) && table_test f (suc n) ys

-- A list that passes this test holds at each place the number of the function there.
table_at : (f : ℕ → ℕ) (n i : ℕ) (t : List ℕ) → table_test f n t ≡ true → i < length t → get_or t i 0 ≡ f (n + i)
unfolding table_test
table_at f n i [] h l = absurd (omega arith)
table_at f n zero (y ∷ ys) h l =
    eqb-true y (f n) (and_parts (eqb y (f n)) (table_test f (suc n) ys) h).0 ∙ ap f (sym (add-zero n))
table_at f n (suc i) (y ∷ ys) h l =
    table_at f (suc n) i ys (and_parts (eqb y (f n)) (table_test f (suc n) ys) h).1 (omega arith)
    ∙ ap f (let q : suc n + i ≡ n + suc i = omega arith in q)

-- All 4096 products of each table are computed once more: at most 11 seconds and 0.7 GB for this whole file.
low_test : table_test (λ n. (n / 16) ⊗ (n % 16)) 0 LOW ≡ true
unfolding table_test ◌⊗◌ carryless modulo_301
low_test = refl

-- The table of products with high halves passes the test too.
high_test : table_test (λ n. (n / 16) ⊗ (n % 16 * 16)) 0 HIGH ≡ true
unfolding table_test ◌⊗◌ carryless modulo_301
high_test = refl

-- The table of products with low halves has 4096 numbers.
low_length : length LOW ≡ 4096
low_length = refl

-- The table of products with high halves has 4096 numbers.
high_length : length HIGH ≡ 4096
high_length = refl

-- The place of a product is its element's row and the number of the other one's half.
place_of : (c n : ℕ) → n < 16 → ((16 * c + n) / 16 ≡ c) × ((16 * c + n) % 16 ≡ n)
place_of c n h = (omega arith, omega arith)

-- The table of products with low halves holds the product of c and n at the place 16 c + n.
low_at : (c n : ℕ) → c < 256 → n < 16 → get_or LOW (16 * c + n) 0 ≡ c ⊗ n
low_at c n h l =
    let p = place_of c n l in
    table_at (λ n. (n / 16) ⊗ (n % 16)) 0 (16 * c + n) LOW low_test (omega (arith, low_length))
    ∙ ap (λ m. (m / 16) ⊗ (m % 16)) (let q : 0 + (16 * c + n) ≡ 16 * c + n = omega arith in q)
    ∙ ap (λ m. m ⊗ ((16 * c + n) % 16)) p.0 ∙ ap (λ m. c ⊗ m) p.1

-- The table of products with high halves holds the product of c and 16 n at the place 16 c + n.
high_at : (c n : ℕ) → c < 256 → n < 16 → get_or HIGH (16 * c + n) 0 ≡ c ⊗ (n * 16)
high_at c n h l =
    let p = place_of c n l in
    table_at (λ n. (n / 16) ⊗ (n % 16 * 16)) 0 (16 * c + n) HIGH high_test (omega (arith, high_length))
    ∙ ap (λ m. (m / 16) ⊗ (m % 16 * 16)) (let q : 0 + (16 * c + n) ≡ 16 * c + n = omega arith in q)
    ∙ ap (λ m. m ⊗ ((16 * c + n) % 16 * 16)) p.0 ∙ ap (λ m. c ⊗ (m * 16)) p.1

-- The products of the two halves add up to the product.
pub halves_apart : (c x : ℕ) → c < 256 → x < 256 →
    get_or LOW (16 * c + x % 16) 0 ⊕ get_or HIGH (16 * c + x / 16) 0 ≡ c ⊗ x
halves_apart c x h l =
    ap (λ y. y ⊕ get_or HIGH (16 * c + x / 16) 0) (low_at c (x % 16) h (mod_below x 16 (omega arith)))
    ∙ ap (bit_xor (c ⊗ (x % 16))) (high_at c (x / 16) h (omega arith))
    ∙ sym (product_sum_right c (x % 16) (x / 16 * 16))
    ∙ ap (λ y. c ⊗ y) (xor_comm (x % 16) (x / 16 * 16) ∙ xor_shifted (x / 16) 4 (x % 16) (mod_below x 16 (omega arith))
    ∙ shr_split x 4)

-- ---- the tables in lanes
-- The row of an element has its products with the low halves 0 to 15.
abbrev pub low_row : ℕ → List ℕ
low_row c = chunk (16 * c) 16 LOW

-- Its other row has its products with the high halves, 0 to 15 times 16.
abbrev pub high_row : ℕ → List ℕ
high_row c = chunk (16 * c) 16 HIGH

-- The low half may be cut out by a mask.
pub halves : (c x : ℕ) → c < 256 → x < 256 → get_or (low_row c) (bit_and x 15) 0 ⊕ get_or (high_row c) (x / 16) 0 ≡
    c ⊗ x
halves c x h l =
    ap (λ i. get_or (low_row c) i 0 ⊕ get_or (high_row c) (x / 16) 0) (and_mask x 4)
    ∙ ap (λ y. y ⊕ get_or (high_row c) (x / 16) 0)
    (get_or-chunk (16 * c) 16 LOW (x % 16) 0 (mod_below x 16 (omega arith)))
    ∙ ap (bit_xor (get_or LOW (16 * c + x % 16) 0)) (get_or-chunk (16 * c) 16 HIGH (x / 16) 0 (omega arith))
    ∙ halves_apart c x h l

-- In every lane the sum of the two looked-up products is the product.
pub halves_in_lanes : (c : ℕ) (v : List ℕ) → c < 256 → Each1 (Fits w8) v →
    map (λ x. get_or (low_row c) (bit_and x 15) 0 ⊕ get_or (high_row c) (x / 16) 0) v ≡ map (λ x. c ⊗ x) v
halves_in_lanes c [] h f = refl
halves_in_lanes c (x ∷ xs) h f = λ i. halves c x h f.0.fits i ∷ halves_in_lanes c xs h f.1 i

-- The low half of each lane is a place below 16.
pub low_places : (v : List ℕ) → length v ≡ 16 → (k d : ℕ) → k < length (zip2 bit_and v (replicate 16 15)) →
    get_or (zip2 bit_and v (replicate 16 15)) k d < 16
low_places v long k d h =
    let within : k < length v = omega (arith, long, length-zip2 bit_and v (replicate 16 15) long) in
    omega (
      arith,
      ap (λ l. get_or l k d) (zip2_splat bit_and v 16 15 long)
          ∙ get_or-map (λ x. bit_and x 15) v k 0 d within,
      and_le_r (get_or v k 0) 15,
    )

-- A number is shifted down by a number of bits.
abbrev pub down : ℕ → ℕ → ℕ
down a b = a / 2 ^ b

-- The high half of each lane is a place below 16.
pub high_places : (v : List ℕ) → length v ≡ 16 → Each1 (Fits w8) v → (k d : ℕ) →
    k < length (zip2 down v (replicate 16 4)) → get_or (zip2 down v (replicate 16 4)) k d < 16
high_places v long f k d h =
    let within : k < length v = omega (arith, long, length-zip2 down v (replicate 16 4) long) in
    let byte : get_or v k 0 < 256 = Each1-get_or (λ x. x < 256) v k 0 within (below_from_Fits w8 v f) in
    omega (
      arith,
      ap (λ l. get_or l k d) (zip2_splat down v 16 4 long) ∙ get_or-map (λ x. down x 4) v k 0 d within,
      byte,
    )

-- What `scale` computes is the product in every lane.
pub scaled_lanes : (c : ℕ) (v rs ss : List ℕ) → c < 256 → length v ≡ 16 → Each1 (Fits w8) v
    → rs ≡ map (λ i. get_or (low_row c) i 0) (zip2 bit_and v (replicate 16 15)) →
    ss ≡ map (λ i. get_or (high_row c) i 0) (zip2 down v (replicate 16 4))
    → zip2 bit_xor rs ss ≡ map (λ x. c ⊗ x) v
scaled_lanes c v rs ss h long f p q =
    zip2_of_maps bit_xor (λ x. get_or (low_row c) (bit_and x 15) 0) (λ x. get_or (high_row c) (x / 16) 0) v
    (p ∙ ap (map (λ i. get_or (low_row c) i 0)) (zip2_splat bit_and v 16 15 long)
    ∙ map-map (λ i. get_or (low_row c) i 0) (λ x. bit_and x 15) v)
    (q ∙ ap (map (λ i. get_or (high_row c) i 0)) (zip2_splat down v 16 4 long)
    ∙ map-map (λ i. get_or (high_row c) i 0) (λ x. x / 16) v)
    ∙ halves_in_lanes c v h f

-- The row of low halves is read from the part of its table that begins at its place.
pub low_read : (c : ℕ) → c < 256 → take 16 (take (length LOW - 16 * c) (drop (16 * c) LOW)) ≡ low_row c
low_read c h = take-take 16 (length LOW - 16 * c) (drop (16 * c) LOW) (omega (arith, low_length))

-- The row of high halves is read from the part of its table that begins at its place.
pub high_read : (c : ℕ) → c < 256 → take 16 (take (length HIGH - 16 * c) (drop (16 * c) HIGH)) ≡ high_row c
high_read c h = take-take 16 (length HIGH - 16 * c) (drop (16 * c) HIGH) (omega (arith, high_length))
