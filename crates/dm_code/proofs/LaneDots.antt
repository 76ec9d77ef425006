-- Sums of the products of two lists' numbers at the same places, sixteen at a time, and the product of two series as
-- such a sum.
use Rattle.std.proofs.Common.{◌≡◌, ℕ, zero, suc, ◌+◌, ◌-◌, ◌<◌, ◌≤◌, List, [], ◌∷◌, length, refl, sym, ap, ◌∙◌, arith}
use Rattle.std.proofs.Common.{bit_xor, get_or}
use lib.Bits.{xor_assoc, xor_comm, xor_zero_l, xor_zero_r}
use lib.Lanes.{fold_l, zip2}
use Rattle.gf301.specs.Field.{◌⊕◌, ◌⊗◌}
use Rattle.gf301.specs.Polynomial.{convolution}
use Rattle.gf301.proofs.Exported.{product_at_zero, product_zero_at, xor_swap, shift}
use Rattle.dm_code.specs.inner.LinearSystem.{dot}

-- ---- the sum of the lanes
-- The numbers of a list are added.
abbrev pub total : List ℕ → ℕ
total xs = fold_l bit_xor 0 xs

-- What a sum begins with may be added afterwards.
total_from : (a b : ℕ) (xs : List ℕ) → fold_l bit_xor (a ⊕ b) xs ≡ a ⊕ fold_l bit_xor b xs
total_from a b [] = refl
total_from a b (x ∷ xs) = ap (λ y. fold_l bit_xor y xs) (xor_assoc a b x) ∙ total_from a (b ⊕ x) xs

-- The first number may be added last.
total_cons : (x : ℕ) (xs : List ℕ) → total (x ∷ xs) ≡ x ⊕ total xs
total_cons x xs = ap (λ y. fold_l bit_xor y xs) (xor_comm 0 x) ∙ total_from x 0 xs

-- The sum of two lists' sums, lane by lane, is the sum of both.
pub total_sums : (xs ys : List ℕ) → length xs ≡ length ys → total (zip2 bit_xor xs ys) ≡ total xs ⊕ total ys
total_sums [] [] h = sym (xor_zero_r 0)
total_sums [] (y ∷ ys) h = absurd (omega arith)
total_sums (x ∷ xs) [] h = absurd (omega arith)
total_sums (x ∷ xs) (y ∷ ys) h =
    total_cons (x ⊕ y) (zip2 bit_xor xs ys) ∙ ap (bit_xor (x ⊕ y)) (total_sums xs ys (omega arith))
    ∙ xor_swap x y (total xs) (total ys)
    ∙ ap (λ z. z ⊕ (y ⊕ total ys)) (sym (total_cons x xs)) ∙ ap (bit_xor (total (x ∷ xs))) (sym (total_cons y ys))

-- The sum of products of two series at n places.
pub total_products : (f v : ℕ → ℕ) (c n : ℕ) (xs : List ℕ) → length xs ≡ n →
    ((i : ℕ) → i < n → get_or xs i 0 ≡ f (c + i) ⊗ v (c + i)) → total xs ≡ dot f v c n
unfolding dot
total_products f v c zero [] h e = refl
total_products f v c zero (x ∷ xs) h e = absurd (omega arith)
total_products f v c (suc n) [] h e = absurd (omega arith)
total_products f v c (suc n) (x ∷ xs) h e =
    total_cons x xs ∙ ap (λ y. y ⊕ total xs) (e 0 (omega arith)
    ∙ ap (λ j. f j ⊗ v j) (let q : c + 0 ≡ c = omega arith in q))
    ∙ ap (bit_xor (f c ⊗ v c))
    (total_products f v (suc c) n xs (omega arith) (λ i b. e (suc i) (omega arith)
    ∙ ap (λ j. f j ⊗ v j) (let q : c + suc i ≡ suc c + i = omega arith in q)))

-- ---- sums of products at more places and fewer
-- The places may be taken in two parts.
pub dot_parts : (f v : ℕ → ℕ) (c m n : ℕ) → dot f v c (m + n) ≡ dot f v c m ⊕ dot f v (c + m) n
unfolding dot
dot_parts f v c zero n =
    ap (dot f v c) (let q : 0 + n ≡ n = omega arith in q) ∙ ap (λ d. dot f v d n) (let q : c ≡ c + 0 = omega arith in q)
    ∙ sym (xor_zero_l (dot f v (c + 0) n))
dot_parts f v c (suc m) n =
    ap (dot f v c) (let q : suc m + n ≡ suc (m + n) = omega arith in q)
    ∙ ap (bit_xor (f c ⊗ v c)) (dot_parts f v (suc c) m n
    ∙ ap (λ d. dot f v (suc c) m ⊕ dot f v d n) (let q : suc c + m ≡ c + suc m = omega arith in q))
    ∙ sym (xor_assoc (f c ⊗ v c) (dot f v (suc c) m) (dot f v (c + suc m) n))

-- Where each product is 0, so is their sum.
dot_nothing : (f v : ℕ → ℕ) (c n : ℕ) → ((i : ℕ) → c ≤ i → f i ⊗ v i ≡ 0) → dot f v c n ≡ 0
unfolding dot
dot_nothing f v c zero h = refl
dot_nothing f v c (suc n) h =
    ap (λ y. y ⊕ dot f v (suc c) n) (h c (omega arith)) ∙ xor_zero_l (dot f v (suc c) n)
    ∙ dot_nothing f v (suc c) n (λ i b. h i (omega arith))

-- More places add nothing where all products from there on are 0.
dot_longer : (f v : ℕ → ℕ) (m n : ℕ) → ((i : ℕ) → m ≤ i → f i ⊗ v i ≡ 0) → dot f v 0 (m + n) ≡ dot f v 0 m
dot_longer f v m n h =
    dot_parts f v 0 m n ∙ ap (bit_xor (dot f v 0 m)) (dot_nothing f v (0 + m) n (λ i b. h i (omega arith)))
    ∙ xor_zero_r (dot f v 0 m)

-- So two numbers of places give the same sum, if from each of them on all products are 0.
dot_bounds : (f v : ℕ → ℕ) (m n : ℕ) → ((i : ℕ) → m ≤ i → f i ⊗ v i ≡ 0) → ((i : ℕ) → n ≤ i → f i ⊗ v i ≡ 0) →
    dot f v 0 m ≡ dot f v 0 n
dot_bounds f v m n h k =
    sym (dot_longer f v m n h) ∙ ap (dot f v 0) (let q : m + n ≡ n + m = omega arith in q) ∙ dot_longer f v n m k

-- ---- the product of two series
-- Sums from the next place on are those of the series without their first coefficients.
dot_shift : (f v : ℕ → ℕ) (c n : ℕ) → dot f v (suc c) n ≡ dot (shift f) (shift v) c n
unfolding dot
dot_shift f v c zero = refl
dot_shift f v c (suc n) = ap (bit_xor (f (suc c) ⊗ v (suc c))) (dot_shift f v (suc c) n)

-- A coefficient of the product is a sum of products with the coefficients of the other factor in reverse.
conv_dot : (f g v : ℕ → ℕ) (n : ℕ) → ((j : ℕ) → j ≤ n → v j ≡ g (n - j)) → convolution f g n ≡ dot f v 0 (suc n)
unfolding dot convolution
conv_dot f g v zero h = ap (λ y. f 0 ⊗ y) (sym (h 0 (omega arith))) ∙ sym (xor_zero_r (f 0 ⊗ v 0))
conv_dot f g v (suc n) h =
    ap (λ y. f 0 ⊗ y ⊕ convolution (shift f) g n)
    (sym (h 0 (omega arith) ∙ ap g (let q : suc n - 0 ≡ suc n = omega arith in q)))
    ∙ ap (bit_xor (f 0 ⊗ v 0))
    (conv_dot (shift f) g (shift v) n (λ j b. h (suc j) (omega arith)
    ∙ ap g (let q : suc n - suc j ≡ n - j = omega arith in q)) ∙ sym (dot_shift f v 0 (suc n)))

-- It is so for any number of places past which the first factor has no coefficients, if the reversed ones end in zeros.
pub conv_lanes : (f g v : ℕ → ℕ) (n m : ℕ) → ((j : ℕ) → j ≤ n → v j ≡ g (n - j)) → ((j : ℕ) → n < j → v j ≡ 0) →
    ((i : ℕ) → m ≤ i → f i ≡ 0) → convolution f g n ≡ dot f v 0 m
conv_lanes f g v n m h z e =
    conv_dot f g v n h ∙ dot_bounds f v (suc n) m (λ i b. product_zero_at (f i) (v i) (z i (omega arith)))
    (λ i b. product_at_zero (f i) (v i) (e i b))
