-- The places of a block among codewords that are dealt, whether or not the number of blocks divides that of the
-- codewords.
use Rattle.dm_layout.proofs.Names.{nat_tests, ◌≡◌, ◌≢◌, ℕ, zero, suc, ◌+◌, ◌-◌, ◌*◌, ◌/◌, ◌%◌, ◌<◌, ◌≤◌, Bool, true}
use Rattle.dm_layout.proofs.Names.{false, List, [], ◌∷◌, map, length, get_or, nat_eq, nat_lt, refl, sym, ◌∙◌, ap, arith}
use Rattle.dm_layout.proofs.Names.{range_with_len, ltb-true, ltb-false, div-mul-add, mod-mul-add}
use Rattle.dm_layout.proofs.Names.{length-map-range_with_len, get_or-map-range_with_len, mul-le-mul_right}
use Rattle.dm_layout.proofs.Names.{lt_of_mul-lt-mul_right, div-add-mod, count_in_block, block_of}
use Rattle.std.specs.Prelude.{filter}
use Rattle.dm_place.proofs.Exported.{filter_skip, filter_keep}

-- A place belongs to block b of B if it leaves b when divided by B.
abbrev pub is_of_block : ℕ → ℕ → ℕ → Bool
is_of_block B b j = nat_eq (j % B) b

-- The place k * B + r belongs to block r and to no other.
of_block : (B b k r j : ℕ) → k * B + r ≡ j → r < B → is_of_block B b j ≡ nat_eq r b
of_block B b k r j e l = ap (λ (i : ℕ). nat_eq (i % B) b) (sym e) ∙ ap (λ (i : ℕ). nat_eq i b) (mod-mul-add k B r l)

nat_eq_same : (r : ℕ) → nat_eq r r ≡ true
nat_eq_same r = grind arith

nat_eq_other : (r s : ℕ) → r ≢ s → nat_eq r s ≡ false
nat_eq_other r s h = grind arith

-- ---- fewer than B places, the last ones

-- No place from k * B + from on, before the next multiple of B, belongs to a block below `from`.
none_after : (B b k from n : ℕ) → b < from → from + n ≤ B →
    filter (is_of_block B b) (range_with_len (k * B + from) n) ≡ []
none_after B b k from n l fits =
    let e : n ≡ n + 0 = omega arith in
    ap (λ m. filter (is_of_block B b) (range_with_len (k * B + from) m)) e
    ∙ filter_skip (is_of_block B b) (k * B + from) n 0
    (λ j lj. let g : k * B + (from + j) ≡ k * B + from + j = omega arith in
    of_block B b k (from + j) (k * B + from + j) g (omega arith) ∙ nat_eq_other (from + j) b (omega arith))

-- Of the r places from k * B on, with b < r, one belongs to block b.
one_of : (B b k r : ℕ) → b < r → r ≤ B → filter (is_of_block B b) (range_with_len (k * B) r) ≡ (k * B + b) ∷ []
one_of B b k r l fits =
    let e : r ≡ b + suc (r - b - 1) = omega arith in
    let f : k * B + b + 1 ≡ k * B + (b + 1) = omega arith in
    let here : is_of_block B b (k * B + b) ≡ true = of_block B b k b (k * B + b) refl (omega arith) ∙ nat_eq_same b in
    ap (λ m. filter (is_of_block B b) (range_with_len (k * B) m)) e
    ∙ filter_skip (is_of_block B b) (k * B) b (suc (r - b - 1))
    (λ j lj. of_block B b k j (k * B + j) refl (omega arith) ∙ nat_eq_other j b (omega arith))
    ∙ filter_keep (is_of_block B b) (k * B + b) (r - b - 1) here
    ∙ ap (λ xs. (k * B + b) ∷ xs)
    (ap (λ m. filter (is_of_block B b) (range_with_len m (r - b - 1))) f
    ∙ none_after B b k (b + 1) (r - b - 1) (omega arith) (omega arith))

-- Of the r places from k * B on, with r ≤ b, none belongs to block b.
none_of : (B b k r : ℕ) → r ≤ b → b < B → filter (is_of_block B b) (range_with_len (k * B) r) ≡ []
none_of B b k r l fits =
    let e : r ≡ r + 0 = omega arith in
    ap (λ m. filter (is_of_block B b) (range_with_len (k * B) m)) e
    ∙ filter_skip (is_of_block B b) (k * B) r 0
    (λ j lj. of_block B b k j (k * B + j) refl (omega arith) ∙ nat_eq_other j b (omega arith))

-- ---- all places

-- If r places from a multiple of B on have e of block b, then n * B + r have n + e of it.
places_from : (B b r e k n : ℕ) → b < B → ((i : ℕ) →
    filter (is_of_block B b) (range_with_len (i * B) r) ≡ map (λ j. j * B + b) (range_with_len i e)) →
    filter (is_of_block B b) (range_with_len (k * B) (n * B + r)) ≡ map (λ i. i * B + b) (range_with_len k (n + e))
places_from B b r e k zero lb tail =
    let f : zero * B + r ≡ r = omega arith in
    let g : e ≡ zero + e = omega arith in
    ap (λ m. filter (is_of_block B b) (range_with_len (k * B) m)) f ∙ tail k
    ∙ ap (λ m. map (λ i. i * B + b) (range_with_len k m)) g
places_from B b r e k (suc n) lb tail =
    let f : suc n * B + r ≡ B + (n * B + r) = omega arith in
    let g : k * B + B ≡ (k + 1) * B = omega arith in
    let s : suc (n + e) ≡ suc n + e = omega arith in
    let rest : ℕ = n * B + r in
    cc (f, whole B b k rest lb, g, places_from B b r e (k + 1) n lb tail, s)
  where
    whole : (B b k rest : ℕ) → b < B → filter (is_of_block B b) (range_with_len (k * B) (B + rest)) ≡ (k * B + b) ∷
        filter (is_of_block B b) (range_with_len (k * B + B) rest)
    whole B b k rest lb =
        let e : B + rest ≡ b + suc (B - b - 1 + rest) = omega arith in
        let f : k * B + b + 1 + (B - b - 1) ≡ k * B + B = omega arith in
        let here : is_of_block B b (k * B + b) ≡ true = of_block B b k b (k * B + b) refl lb ∙ nat_eq_same b in
        ap (λ m. filter (is_of_block B b) (range_with_len (k * B) m)) e
        ∙ filter_skip (is_of_block B b) (k * B) b (suc (B - b - 1 + rest))
        (λ j l. of_block B b k j (k * B + j) refl (omega arith) ∙ nat_eq_other j b (omega arith))
        ∙ filter_keep (is_of_block B b) (k * B + b) (B - b - 1 + rest) here
        ∙ ap (λ xs. (k * B + b) ∷ xs)
        (filter_skip (is_of_block B b) (k * B + b + 1) (B - b - 1) rest
        (λ j l. let g : k * B + (b + 1 + j) ≡ k * B + b + 1 + j = omega arith in
        of_block B b k (b + 1 + j) (k * B + b + 1 + j) g (omega arith) ∙ nat_eq_other (b + 1 + j) b (omega arith))
        ∙ ap (λ m. filter (is_of_block B b) (range_with_len m rest)) f)

-- Block b gets one thing of r that are left if b is below r, and so its share is one more than that of n rounds.
count_in_block_more : (B b n r : ℕ) → b < r → r ≤ B → count_in_block (n * B + r) B b ≡ n + 1
count_in_block_more B b n r l fits = grind (arith, nat_tests, div-mul-add)

-- It gets none if b is r or more.
count_in_block_same : (B b n r : ℕ) → r ≤ b → b < B → count_in_block (n * B + r) B b ≡ n + 0
count_in_block_same B b n r l fits = grind (arith, nat_tests, div-mul-add)

-- The places of block b among `count` are i * B + b for as many numbers i as its share has.
places_of : (B b count : ℕ) → b < B → filter (is_of_block B b) (range_with_len 0 count) ≡
    map (λ i. i * B + b) (range_with_len 0 (count_in_block count B b))
places_of B b count lb =
    let n : ℕ = count / B in
    let r : ℕ = count % B in
    let parts = div-add-mod count B in
    let all : count ≡ n * B + r = omega (arith, parts) in
    let small : r < B = omega arith in
    let z : 0 ≡ 0 * B = omega arith in
    cc (all, z, by_rest n r small (nat_lt b r) refl)
  where
    by_rest : (n r : ℕ) → r < B → (t : Bool) → nat_lt b r ≡ t →
        filter (is_of_block B b) (range_with_len (0 * B) (n * B + r)) ≡
        map (λ i. i * B + b) (range_with_len 0 (count_in_block (n * B + r) B b))
    by_rest n r small true t =
        let l = ltb-true b r t in
        places_from B b r 1 0 n lb (λ i. one_of B b i r l (omega (arith, small)))
        ∙ ap (λ m. map (λ i. i * B + b) (range_with_len 0 m))
        (sym (count_in_block_more B b n r l (omega (arith, small))))
    by_rest n r small false t =
        let l = ltb-false b r t in
        rw (places_from B b r 0 0 n lb (λ i. none_of B b i r l lb), count_in_block_same B b n r l lb)

-- In block b, codeword k is the one at place k * B + b.
pub block_by_steps : (B b : ℕ) (words : List ℕ) → b < B →
    block_of B b words ≡ map (λ k. get_or words (k * B + b) 0) (range_with_len 0 (count_in_block (length words) B b))
block_by_steps B b words lb =
    rw (places_of B b (length words) lb, map_map (range_with_len 0 (count_in_block (length words) B b)))
  where
    map_map : (ks : List ℕ) → map (λ j. get_or words j 0) (map (λ i. i * B + b) ks) ≡
        map (λ k. get_or words (k * B + b) 0) ks
    map_map [] = refl
    map_map (k ∷ ks) = ap (λ xs. get_or words (k * B + b) 0 ∷ xs) (map_map ks)

-- A block has as many codewords as are dealt to it.
pub length-block_of : (B b : ℕ) (words : List ℕ) → b < B →
    length (block_of B b words) ≡ count_in_block (length words) B b
length-block_of B b words lb =
    rw (block_by_steps, length-map-range_with_len)

-- Codeword k of block b is the one at place k * B + b.
pub get_or-block_of : (B b k : ℕ) (words : List ℕ) → b < B → k < count_in_block (length words) B b →
    get_or (block_of B b words) k 0 ≡ get_or words (k * B + b) 0
get_or-block_of B b k words lb lk = grind (arith, nat_tests, block_by_steps, get_or-map-range_with_len)

-- Place k of a block lies among all places.
pub count_in_block_inside : (B b k count : ℕ) → b < B → k < count_in_block count B b → k * B + b < count
count_in_block_inside B b k count lb lk =
    let parts = div-add-mod (count + B - 1 - b) B in
    let room : (k + 1) * B ≤ count_in_block count B b * B = mul-le-mul_right B (omega arith) in
    omega (arith, parts, room)

-- Place j is the place of step j div B in block j mod B.
pub record PlaceParts (B count j : ℕ) : Type 0 where
  pub step : j / B < count_in_block count B (j % B)
  pub block : j % B < B
  pub there : j / B * B + j % B ≡ j

pub place_parts : (B count j : ℕ) → 0 < B → j < count → PlaceParts B count j
place_parts B count j lb l =
    let parts = div-add-mod j B in
    let there : j / B * B + j % B ≡ j = omega (arith, parts) in
    let small : j % B < B = omega arith in
    let top : ℕ = count + B - 1 - j % B in
    let whole = div-add-mod top B in
    let rest : top % B < B = omega arith in
    let below : j / B * B < top / B * B = omega (arith, there, small, whole, rest, l) in
    record { step = lt_of_mul-lt-mul_right B below; block = small; there = there }
