-- Products lane by lane: by doubling one factor, as the bits of the other tell.
use Rattle.std.proofs.Common.{◌≡◌, ℕ, zero, suc, ◌+◌, ◌*◌, ◌/◌, ◌%◌, ◌^◌, ◌<◌, List, [], ◌∷◌, length, map, replicate}
use Rattle.std.proofs.Common.{refl, sym, ap, ◌∙◌, arith, bit_xor, bit_and, Bool, true, false, not, cond, eqb, leb, w8}
use Rattle.std.proofs.Common.{Fits}
use Rattle.std.proofs.lemmas.Bool.{eqb-true, leb-true}
use Rattle.std.proofs.lemmas.Nat.{mod_below, shr_split, and_mask, div_below}
use Rattle.std.proofs.Math.Nat.{pow-succ'}
use lib.Bits.{xor_assoc, xor_comm, xor_shifted, xor_zero_r}
use lib.Lanes.{zip2, sel_l, top, Each1}
use Rattle.gf301.specs.Field.{◌⊕◌, ◌⊗◌, carryless, modulo_301}
use Rattle.gf301.proofs.Additive.{all_below, all_below_at}
use Rattle.gf301.proofs.FieldLaws.{product_sum_right, product_comm, product_assoc, product_zero_right}
use Rattle.gf301.proofs.FieldLaws.{product_one_right}

-- A lane of the result of a comparison is 255 or 0, and its highest bit tells which.
flag : (b : Bool) → top 7 (cond b 255 0) ≡ b
flag true = refl
flag false = refl

-- ---- twice an element
-- A byte is shifted up by one, and 45 is taken away where its highest bit was 1.
shifted : ℕ → ℕ
shifted a = (a + a) % 256 ⊕ cond (leb 128 a) 45 0

-- A byte so shifted is its product with 2: 256 cases.
shifted_test : all_below 256 (λ a. eqb (shifted a) (2 ⊗ a)) ≡ true
unfolding all_below shifted ◌⊗◌ carryless modulo_301
shifted_test = refl

-- A byte so shifted is its product with 2.
shifted_is : (a : ℕ) → a < 256 → shifted a ≡ 2 ⊗ a
shifted_is a h = eqb-true (shifted a) (2 ⊗ a) (all_below_at 256 (λ a. eqb (shifted a) (2 ⊗ a)) shifted_test a h)

-- Below 128 nothing is taken away, and the product with 2 is the number times 2.
twice : (a : ℕ) → a < 128 → 2 ⊗ a ≡ a * 2
unfolding shifted
twice a h = sym (shifted_is a (omega arith)) ∙ go (leb 128 a) refl
  where
    go : (b : Bool) → leb 128 a ≡ b → (a + a) % 256 ⊕ cond b 45 0 ≡ a * 2
    go true e = absurd (omega (arith, leb-true 128 a e))
    go false e = xor_zero_r ((a + a) % 256) ∙ (let q : (a + a) % 256 ≡ a * 2 = omega arith in q)

-- Every lane is doubled.
pub doubled_lanes : (xs : List ℕ) (n : ℕ) → length xs ≡ n → Each1 (Fits w8) xs
    → zip2 bit_xor (zip2 (λ x y. (x + y) % 256) xs xs)
    (sel_l (map (top 7) (zip2 (λ a b. cond (leb a b) 255 0) (replicate n 128) xs)) (replicate n 45)
    (replicate n 0)) ≡ map (λ x. 2 ⊗ x) xs
unfolding shifted
doubled_lanes [] n e h = refl
doubled_lanes (x ∷ xs) zero e h = absurd (omega arith)
doubled_lanes (x ∷ xs) (suc n) e h =
    λ i. (ap (λ b. (x + x) % 256 ⊕ cond b 45 0) (flag (leb 128 x)) ∙ shifted_is x h.0.fits) i ∷
    doubled_lanes xs n (omega arith) h.1 i

-- ---- one bit of a factor
-- The product of an element and a digit is the element where the digit is 1, and 0 where it is 0.
bit_product : (a d : ℕ) → a < 256 → d < 2 → a ⊗ d ≡ cond (not (eqb d 0)) a 0
bit_product a zero h l = product_zero_right a
bit_product a (suc zero) h l = product_one_right a h
bit_product a (suc (suc d)) h l = absurd (omega arith)

-- A product is the sum of that with the lowest bit of a factor and that of the other factor doubled with the rest of
-- the bits.
halved : (a b : ℕ) → a < 256 → b < 256 → cond (not (eqb (bit_and b 1) 0)) a 0 ⊕ (2 ⊗ a) ⊗ (b / 2) ≡ a ⊗ b
halved a b h l =
    ap (λ y. y ⊕ (2 ⊗ a) ⊗ (b / 2)) (ap (λ d. cond (not (eqb d 0)) a 0) (and_mask b 1)
    ∙ sym (bit_product a (b % 2) h (mod_below b 2 (omega arith))))
    ∙ ap (bit_xor (a ⊗ (b % 2)))
    (ap (λ y. y ⊗ (b / 2)) (product_comm 2 a) ∙ product_assoc a 2 (b / 2)
    ∙ ap (λ y. a ⊗ y) (twice (b / 2) (omega arith)))
    ∙ sym (product_sum_right a (b % 2) (b / 2 * 2))
    ∙ ap (λ y. a ⊗ y) (xor_comm (b % 2) (b / 2 * 2) ∙ xor_shifted (b / 2) 1 (b % 2) (mod_below b 2 (omega arith))
    ∙ shr_split b 1)

-- ---- the turns, in every lane
-- Before the first turn the sum is 0 in each lane, and the whole product is left.
pub first_turn : (zs : List ℕ) (n : ℕ) → length zs ≡ n → zip2 bit_xor (replicate n 0) zs ≡ zs
first_turn [] zero p = refl
first_turn [] (suc n) p = refl
first_turn (z ∷ zs) zero p = absurd (omega arith)
first_turn (z ∷ zs) (suc n) p = λ i. z ∷ first_turn zs n (omega arith) i

-- A lane is odd where its lowest bit is 1.
abbrev pub odd_lanes : ℕ → List ℕ → List Bool
odd_lanes n rs =
    map (top 7) (zip2 (λ a b. cond (not (eqb a b)) 255 0) (zip2 bit_and rs (replicate n 1)) (replicate n 0))

-- What a turn adds to the sum and what is then left of the product make up what was left before it.
pub turn_lanes : (ss ds rs : List ℕ) (n : ℕ) → length ss ≡ n → length ds ≡ n → length rs ≡ n → Each1 (Fits w8) ds →
    Each1 (Fits w8) rs
    → zip2 bit_xor (zip2 bit_xor ss (sel_l (odd_lanes n rs) ds (replicate n 0)))
    (zip2 (λ x y. x ⊗ y) (map (λ x. 2 ⊗ x) ds) (zip2 (λ x y. x / 2 ^ y) rs (replicate n 1)))
    ≡ zip2 bit_xor ss (zip2 (λ x y. x ⊗ y) ds rs)
turn_lanes [] ds rs n p q r f g = refl
turn_lanes (s ∷ ss) ds rs zero p q r f g = absurd (omega arith)
turn_lanes (s ∷ ss) [] rs (suc n) p q r f g = absurd (omega arith)
turn_lanes (s ∷ ss) (d ∷ ds) [] (suc n) p q r f g = absurd (omega arith)
turn_lanes (s ∷ ss) (d ∷ ds) (b ∷ rs) (suc n) p q r f g =
    λ i. (ap (λ t. (s ⊕ cond t d 0) ⊕ (2 ⊗ d) ⊗ (b / 2)) (flag (not (eqb (bit_and b 1) 0)))
    ∙ xor_assoc s (cond (not (eqb (bit_and b 1) 0)) d 0) ((2 ⊗ d) ⊗ (b / 2))
    ∙ ap (bit_xor s) (halved d b f.0.fits g.0.fits)) i
    ∷ turn_lanes ss ds rs n (omega arith) (omega arith) (omega arith) f.1 g.1 i

-- A turn takes the lowest bit away from each lane.
pub fewer_bits : (m : ℕ) (rs : List ℕ) (n : ℕ) → Each1 (λ b. b < 2 ^ suc m) rs →
    Each1 (λ b. b < 2 ^ m) (zip2 (λ x y. x / 2 ^ y) rs (replicate n 1))
fewer_bits m [] n h = tt
fewer_bits m (b ∷ rs) zero h = tt
fewer_bits m (b ∷ rs) (suc n) h =
    (div_below b 2 (2 ^ m) (omega arith) (omega (arith, h.0, pow-succ' 2 m)), fewer_bits m rs n h.1)

-- With no bit left, nothing is left of the product.
pub last_turn : (ss ds rs : List ℕ) (n : ℕ) → length ss ≡ n → length ds ≡ n → length rs ≡ n → Each1 (λ b. b < 1) rs
    → zip2 bit_xor ss (zip2 (λ x y. x ⊗ y) ds rs) ≡ ss
last_turn [] ds rs n p q r h = refl
last_turn (s ∷ ss) ds rs zero p q r h = absurd (omega arith)
last_turn (s ∷ ss) [] rs (suc n) p q r h = absurd (omega arith)
last_turn (s ∷ ss) (d ∷ ds) [] (suc n) p q r h = absurd (omega arith)
last_turn (s ∷ ss) (d ∷ ds) (b ∷ rs) (suc n) p q r h =
    λ i. (ap (λ y. s ⊕ d ⊗ y) (let e : b ≡ 0 = omega (arith, h.0) in e) ∙ ap (bit_xor s) (product_zero_right d)
    ∙ xor_zero_r s) i
    ∷ last_turn ss ds rs n (omega arith) (omega arith) (omega arith) h.1 i
