-- Power series over the field, as functions from the power to its coefficient.
use Rattle.std.proofs.Common.{◌≡◌, ℕ, zero, suc, ◌+◌, ◌-◌, ◌<◌, ◌≤◌, List, [], ◌∷◌, ◌++◌, length, take, length-take}
use Rattle.std.proofs.Common.{get_or, refl, sym, ap, ◌∙◌, arith, bit_xor}
use Rattle.std.proofs.lemmas.List.{take_more}
use lib.Bits.{xor_assoc, xor_comm, xor_zero_r}
use Rattle.gf301.specs.Field.{◌⊕◌, ◌⊗◌}
use Rattle.gf301.specs.Polynomial.{coefficient, convolution}
use Rattle.gf301.proofs.Additive.{xor_swap}
use Rattle.gf301.proofs.FieldLaws.{product_sum_left, product_sum_right, product_assoc, product_comm, product_zero_left}
use Rattle.gf301.proofs.FieldLaws.{product_zero_right, product_below, sum_below}

-- A series is shifted by leaving out its first coefficient.
abbrev pub shift : (ℕ → ℕ) → ℕ → ℕ
shift f i = f (suc i)

-- The product of series takes a sum on the left to a sum.
pub conv_sum_left : (f h g : ℕ → ℕ) (n : ℕ) → convolution (λ i. f i ⊕ h i) g n ≡ convolution f g n ⊕ convolution h g n
unfolding convolution
conv_sum_left f h g zero = product_sum_left (f 0) (h 0) (g 0)
conv_sum_left f h g (suc n) =
    ap (λ y. y ⊕ convolution (λ i. f (suc i) ⊕ h (suc i)) g n) (product_sum_left (f 0) (h 0) (g (suc n)))
    ∙ ap (bit_xor (f 0 ⊗ g (suc n) ⊕ h 0 ⊗ g (suc n))) (conv_sum_left (shift f) (shift h) g n)
    ∙ xor_swap (f 0 ⊗ g (suc n)) (h 0 ⊗ g (suc n)) (convolution (shift f) g n) (convolution (shift h) g n)

-- The product of series takes a multiple on the left to a multiple.
pub conv_scale_left : (c : ℕ) (f g : ℕ → ℕ) (n : ℕ) → convolution (λ i. c ⊗ f i) g n ≡ c ⊗ convolution f g n
unfolding convolution
conv_scale_left c f g zero = product_assoc c (f 0) (g 0)
conv_scale_left c f g (suc n) =
    ap (λ y. y ⊕ convolution (λ i. c ⊗ f (suc i)) g n) (product_assoc c (f 0) (g (suc n)))
    ∙ ap (bit_xor (c ⊗ (f 0 ⊗ g (suc n)))) (conv_scale_left c (shift f) g n)
    ∙ sym (product_sum_right c (f 0 ⊗ g (suc n)) (convolution (shift f) g n))

-- The last term of the sum, that with the first coefficient of the right factor, may be taken apart.
pub conv_last : (f g : ℕ → ℕ) (n : ℕ) → convolution f g (suc n) ≡ f (suc n) ⊗ g 0 ⊕ convolution f (shift g) n
unfolding convolution
conv_last f g zero = xor_comm (f 0 ⊗ g 1) (f 1 ⊗ g 0)
conv_last f g (suc n) =
    ap (bit_xor (f 0 ⊗ g (suc (suc n)))) (conv_last (shift f) g n)
    ∙ sym (xor_assoc (f 0 ⊗ g (suc (suc n))) (f (suc (suc n)) ⊗ g 0) (convolution (shift f) (shift g) n))
    ∙ ap (λ y. y ⊕ convolution (shift f) (shift g) n) (xor_comm (f 0 ⊗ g (suc (suc n))) (f (suc (suc n)) ⊗ g 0))
    ∙ xor_assoc (f (suc (suc n)) ⊗ g 0) (f 0 ⊗ g (suc (suc n))) (convolution (shift f) (shift g) n)

-- The product of series is commutative.
pub conv_comm : (f g : ℕ → ℕ) (n : ℕ) → convolution f g n ≡ convolution g f n
unfolding convolution
conv_comm f g zero = product_comm (f 0) (g 0)
conv_comm f g (suc n) =
    ap (λ y. y ⊕ convolution (shift f) g n) (product_comm (f 0) (g (suc n)))
    ∙ ap (bit_xor (g (suc n) ⊗ f 0)) (conv_comm (shift f) g n)
    ∙ sym (conv_last g f n)

-- The product of series is associative.
pub conv_assoc : (f g h : ℕ → ℕ) (n : ℕ) → convolution (convolution f g) h n ≡ convolution f (convolution g h) n
unfolding convolution
conv_assoc f g h zero = product_assoc (f 0) (g 0) (h 0)
conv_assoc f g h (suc n) =
    ap (bit_xor ((f 0 ⊗ g 0) ⊗ h (suc n)))
    (conv_sum_left (λ i. f 0 ⊗ g (suc i)) (convolution (shift f) g) h n
    ∙ ap (λ y. y ⊕ convolution (convolution (shift f) g) h n) (conv_scale_left (f 0) (shift g) h n)
    ∙ ap (bit_xor (f 0 ⊗ convolution (shift g) h n)) (conv_assoc (shift f) g h n))
    ∙ sym (xor_assoc ((f 0 ⊗ g 0) ⊗ h (suc n)) (f 0 ⊗ convolution (shift g) h n)
    (convolution (shift f) (convolution g h) n))
    ∙ ap (λ y. y ⊕ convolution (shift f) (convolution g h) n)
    (ap (λ y. y ⊕ f 0 ⊗ convolution (shift g) h n) (product_assoc (f 0) (g 0) (h (suc n)))
    ∙ sym (product_sum_right (f 0) (g 0 ⊗ h (suc n)) (convolution (shift g) h n)))

-- Up to the place n only the places up to n of the left factor count.
pub conv_same_left : (f h g : ℕ → ℕ) (n : ℕ) → ((i : ℕ) → i ≤ n → f i ≡ h i) → convolution f g n ≡ convolution h g n
unfolding convolution
conv_same_left f h g zero e = ap (λ y. y ⊗ g 0) (e 0 (omega arith))
conv_same_left f h g (suc n) e =
    ap (λ y. y ⊗ g (suc n) ⊕ convolution (shift f) g n) (e 0 (omega arith))
    ∙ ap (bit_xor (h 0 ⊗ g (suc n))) (conv_same_left (shift f) (shift h) g n (λ i l. e (suc i) (omega arith)))

-- Up to the place n only the places up to n of the right factor count.
pub conv_same_right : (f g h : ℕ → ℕ) (n : ℕ) → ((i : ℕ) → i ≤ n → g i ≡ h i) → convolution f g n ≡ convolution f h n
conv_same_right f g h n e = conv_comm f g n ∙ conv_same_left g h f n e ∙ conv_comm h f n

-- Two left factors change places.
pub conv_swap : (f g h : ℕ → ℕ) (n : ℕ) → convolution f (convolution g h) n ≡ convolution g (convolution f h) n
conv_swap f g h n =
    sym (conv_assoc f g h n) ∙ conv_same_left (convolution f g) (convolution g f) h n (λ i l. conv_comm f g i)
    ∙ conv_assoc g f h n

-- A coefficient of a product is 0 if each term of its sum is 0.
pub conv_zero : (f g : ℕ → ℕ) (n : ℕ) → ((i j : ℕ) → i + j ≡ n → f i ⊗ g j ≡ 0) → convolution f g n ≡ 0
unfolding convolution
conv_zero f g zero e = e 0 0 (omega arith)
conv_zero f g (suc n) e =
    ap (λ y. y ⊕ convolution (shift f) g n) (e 0 (suc n) (omega arith))
    ∙ conv_zero (shift f) g n (λ i j l. e (suc i) j (omega arith))

-- A coefficient of a product is the first term of its sum if each other term is 0.
pub conv_first : (f g : ℕ → ℕ) (n : ℕ) → ((i j : ℕ) → 0 < i → i + j ≡ n → f i ⊗ g j ≡ 0) → convolution f g n ≡ f 0 ⊗ g n
unfolding convolution
conv_first f g zero e = refl
conv_first f g (suc n) e =
    ap (bit_xor (f 0 ⊗ g (suc n))) (conv_zero (shift f) g n (λ i j l. e (suc i) j (omega arith) (omega arith)))
    ∙ xor_zero_r (f 0 ⊗ g (suc n))

-- Each coefficient of a product is a byte.
pub conv_below : (f g : ℕ → ℕ) (n : ℕ) → convolution f g n < 256
unfolding convolution
conv_below f g zero = product_below (f 0) (g 0)
conv_below f g (suc n) =
    sum_below (f 0 ⊗ g (suc n)) (convolution (shift f) g n) (product_below (f 0) (g (suc n))) (conv_below (shift f) g n)

-- A product with 0 on the right is 0.
pub product_zero_at : (a b : ℕ) → b ≡ 0 → a ⊗ b ≡ 0
product_zero_at a b e = ap (λ y. a ⊗ y) e ∙ product_zero_right a

-- A product with 0 on the left is 0.
pub product_at_zero : (a b : ℕ) → a ≡ 0 → a ⊗ b ≡ 0
product_at_zero a b e = ap (λ y. y ⊗ b) e ∙ product_zero_left b

-- ---- Coefficients from a list
-- The product with the empty list is 0.
pub conv_nothing : (s : ℕ → ℕ) (n : ℕ) → convolution (coefficient []) s n ≡ 0
conv_nothing s n = conv_zero (coefficient []) s n (λ i j h. product_zero_left (s j))

-- The product with a list is the sum of that with its head and that with the rest of it.
pub conv_cons : (a : ℕ) (p : List ℕ) (s : ℕ → ℕ) (n : ℕ) →
    convolution (coefficient (a ∷ p)) s (suc n) ≡ a ⊗ s (suc n) ⊕ convolution (coefficient p) s n
unfolding convolution
conv_cons a p s n = refl

-- The product with a list of one coefficient is the multiple by this coefficient.
pub conv_single : (a : ℕ) (s : ℕ → ℕ) (n : ℕ) → convolution (coefficient (a ∷ [])) s n ≡ a ⊗ s n
unfolding convolution
conv_single a s zero = refl
conv_single a s (suc n) = ap (bit_xor (a ⊗ s (suc n))) (conv_nothing s n) ∙ xor_zero_r (a ⊗ s (suc n))

-- ---- A coefficient more of the left factor
-- A coefficient more at the end of the left factor adds its product with the coefficient that belongs to it.
pub conv_push : (p : List ℕ) (a : ℕ) (s : ℕ → ℕ) (n i : ℕ) → length p + i ≡ n →
    convolution (coefficient (p ++ a ∷ [])) s n ≡ convolution (coefficient p) s n ⊕ a ⊗ s i
unfolding convolution
conv_push [] a s n i h =
    conv_single a s n ∙ ap (λ m. a ⊗ s m) (let q : n ≡ i = omega arith in q)
    ∙ ap (λ y. y ⊕ a ⊗ s i) (sym (conv_nothing s n))
conv_push (b ∷ p) a s zero i h = absurd (omega arith)
conv_push (b ∷ p) a s (suc n) i h =
    ap (bit_xor (b ⊗ s (suc n))) (conv_push p a s n i (omega arith))
    ∙ sym (xor_assoc (b ⊗ s (suc n)) (convolution (coefficient p) s n) (a ⊗ s i))

-- A coefficient more at the end of the left factor does not count before its place.
pub conv_push_past : (p : List ℕ) (a : ℕ) (s : ℕ → ℕ) (n : ℕ) → n < length p →
    convolution (coefficient (p ++ a ∷ [])) s n ≡ convolution (coefficient p) s n
unfolding convolution
conv_push_past [] a s n h = absurd (omega arith)
conv_push_past (b ∷ p) a s zero h = refl
conv_push_past (b ∷ p) a s (suc n) h = ap (bit_xor (b ⊗ s (suc n))) (conv_push_past p a s n (omega arith))

-- ---- A coefficient more of a list that is taken from its beginning
-- With one coefficient more taken, its product with the coefficient that belongs to it is added.
pub conv_more : (p : List ℕ) (s : ℕ → ℕ) (n i : ℕ) → i < length p → i ≤ n
    → convolution (coefficient (take (i + 1) p)) s n ≡
    convolution (coefficient (take i p)) s n ⊕ get_or p i 0 ⊗ s (n - i)
conv_more p s n i h l =
    let k : length (take i p) ≡ i = simp length-take (omega arith) in
    ap (λ t. convolution (coefficient t) s n) (take_more p i 0 h)
    ∙ conv_push (take i p) (get_or p i 0) s n (n - i) (omega arith)

-- A coefficient more that is taken does not count before its place.
pub conv_more_past : (p : List ℕ) (s : ℕ → ℕ) (n i : ℕ) → i < length p → n < i
    → convolution (coefficient (take (i + 1) p)) s n ≡ convolution (coefficient (take i p)) s n
conv_more_past p s n i h l =
    let k : length (take i p) ≡ i = simp length-take (omega arith) in
    ap (λ t. convolution (coefficient t) s n) (take_more p i 0 h)
    ∙ conv_push_past (take i p) (get_or p i 0) s n (omega arith)
