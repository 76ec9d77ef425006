-- The products of the two locators of a search with the values: how a correction changes them.
use Rattle.std.proofs.Common.{◌≡◌, ℕ, zero, suc, ◌+◌, ◌-◌, ◌<◌, ◌≤◌, List, ◌++◌, length, take, drop, sym, ap, ◌∙◌}
use Rattle.std.proofs.Common.{length-take, min}
use Rattle.std.proofs.Common.{arith, bit_xor}
use Rattle.std.proofs.Common.{inl, inr, refl}
use Rattle.std.proofs.lemmas.Bool.{cases_lt}
use Rattle.std.proofs.lemmas.List.{get_or-take, get_or-drop, get_or_past, get_or_append_left, get_or-append_right}
use Rattle.gf301.specs.Field.{◌⊕◌, ◌⊗◌}
use Rattle.gf301.specs.Polynomial.{coefficient, convolution}
use Rattle.gf301.proofs.Exported.{conv_first, conv_same_left, conv_scale_left, conv_sum_left, product_assoc}
use Rattle.gf301.proofs.Exported.{product_at_zero, product_one_left}
use Rattle.dm_code.specs.inner.Ones.{IsOne}
use Rattle.dm_code.proofs.BerlekampMassey.{IsCorrected, moved, conv_moved, corrected_at}

-- The first k coefficients of a list are those of the product of two others.
abbrev pub HasProduct : ℕ → List ℕ → List ℕ → List ℕ → Type 0
HasProduct k l s p = (i : ℕ) → i < k → coefficient p i ≡ convolution (coefficient l) (coefficient s) i

-- The product with 1 is the other list.
pub one_product : (k : ℕ) (l s p : List ℕ) → IsOne l → ((i : ℕ) → coefficient s i < 256) →
    ((i : ℕ) → coefficient p i ≡ coefficient s i) → HasProduct k l s p
one_product k l s p h b e = λ i n.
    e i ∙ sym (conv_first (coefficient l) (coefficient s) i (λ a c o d. product_at_zero (coefficient l a)
    (coefficient s c) (h.zeros a o))
    ∙ ap (λ y. y ⊗ coefficient s i) h.one ∙ product_one_left (coefficient s i) (b i))

-- A series that is moved up has a product that is moved up as well.
moved_product : (m : ℕ) (f s : ℕ → ℕ) (i : ℕ) → convolution (moved m f) s (m + i) ≡ convolution f s i
unfolding moved
moved_product zero f s i =
    ap (convolution (moved zero f) s) (let e : zero + i ≡ i = omega arith in e)
    ∙ conv_same_left (moved zero f) f s i (λ j h. refl)
moved_product (suc m) f s i =
    ap (convolution (moved (suc m) f) s) (let e : suc m + i ≡ suc (m + i) = omega arith in e)
    ∙ conv_moved m f s (m + i) ∙ moved_product m f s i

-- Where a multiple of the earlier locator is added to the locator, moved up, so it is to the product.
pub corrected_product : (k : ℕ) (s l e m p q r : List ℕ) (x y gap : ℕ) → IsCorrected l e m x y gap →
    HasProduct k l s p → HasProduct k e s q → ((i : ℕ) → i < gap → coefficient r i ≡ coefficient p i)
    → ((i : ℕ) → i < k → coefficient r (gap + i) ≡ coefficient p (gap + i) ⊕ (x ⊗ y) ⊗ coefficient q i)
    → HasProduct k m s r
corrected_product k s l e m p q r x y gap h pl qe low high = λ i b.
    let cl = convolution (coefficient l) (coefficient s) in
    elim (cases_lt i gap) [
      | inl o ↦ low i o ∙ pl i b
          ∙ conv_same_left (coefficient l) (coefficient m) (coefficient s) i (λ j c. sym (h.low j (omega arith)))
      | inr o ↦
          let j = i - gap in
          let g : gap + j ≡ i = omega arith in
          let f : ℕ → ℕ = λ n. y ⊗ coefficient e n in
          let mf : ℕ → ℕ = moved gap f in
          ap (coefficient r) (sym g) ∙ high j (omega arith)
          ∙ ap (λ n. coefficient p n ⊕ (x ⊗ y) ⊗ coefficient q j) g
          ∙ ap (λ a. a ⊕ (x ⊗ y) ⊗ coefficient q j) (pl i b)
          ∙ ap (λ a. cl i ⊕ (x ⊗ y) ⊗ a) (qe j (omega arith))
          ∙ ap (bit_xor (cl i)) (product_assoc x y (convolution (coefficient e) (coefficient s) j)
          ∙ ap (λ a. x ⊗ a) (sym (conv_scale_left y (coefficient e) (coefficient s) j)
          ∙ sym (moved_product gap f (coefficient s) j) ∙ ap (convolution mf (coefficient s)) g)
          ∙ sym (conv_scale_left x mf (coefficient s) i))
          ∙ sym (conv_sum_left (coefficient l) (λ n. x ⊗ mf n) (coefficient s) i)
          ∙ conv_same_left (λ n. coefficient l n ⊕ x ⊗ mf n) (coefficient m) (coefficient s) i
          (λ n c. sym (corrected_at l e m x y gap h n))
    ]

-- The product of the same polynomial, by other lists, of which one has the first coefficients of the other.
pub same_product : (k : ℕ) (l m s p q : List ℕ) → HasProduct k l s p → ((i : ℕ) → coefficient l i ≡ coefficient m i)
    → ((i : ℕ) → coefficient q i ≡ coefficient (take k p) i) → HasProduct k m s q
same_product k l m s p q h e t = λ i b.
    t i ∙ get_or-take k p i 0 b ∙ h i b
    ∙ conv_same_left (coefficient l) (coefficient m) (coefficient s) i (λ j c. e j)

-- The first k coefficients have zeros behind them.
pub zeros_past : (k : ℕ) (p : List ℕ) (i : ℕ) → k ≤ i → coefficient (take k p) i ≡ 0
zeros_past k p i h =
    let l : length (take k p) ≡ min k (length p) = simp length-take refl in
    get_or_past (take k p) i 0 (omega arith)

-- The same product under other names.
pub renamed_product : (k : ℕ) (l m s p q : List ℕ) → HasProduct k l s p → l ≡ m → q ≡ p → HasProduct k m s q
renamed_product k l m s p q h e f = λ i b.
    ap (λ u. coefficient u i) f ∙ h i b ∙ ap (λ u. convolution (coefficient u) (coefficient s) i) e

-- A list that is written over the beginning of zeros has the same coefficients.
pub coefficients_padded : (s ys zs : List ℕ) → ys ≡ s → ((i : ℕ) → coefficient zs i ≡ 0) → (i : ℕ) →
    coefficient (ys ++ drop (length s) zs) i ≡ coefficient s i
coefficients_padded s ys zs e z i =
    ap (λ u. coefficient (u ++ drop (length s) zs) i) e
    ∙ elim (cases_lt i (length s)) [
      | inl o ↦ get_or_append_left s (drop (length s) zs) 0 i o
      | inr o ↦
          get_or-append_right s (drop (length s) zs) (length s) i 0 refl o
          ∙ get_or-drop (length s) zs (i - length s) 0 ∙ z (length s + (i - length s))
          ∙ sym (get_or_past s i 0 o)
    ]
