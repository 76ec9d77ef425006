-- The algorithm of Berlekamp and Massey: what it keeps of the values that it has taken, and its steps.
use Rattle.std.proofs.Common.{◌≡◌, ℕ, zero, suc, ◌+◌, ◌-◌, ◌<◌, ◌≤◌, List, ◌∷◌, length, take, length-take, replicate}
use Rattle.std.proofs.Common.{refl, sym, ap, subst, ◌∙◌, arith, bit_xor, inl, inr}
use Rattle.std.proofs.lemmas.Bool.{cases_lt, cases_eq}
use Rattle.std.proofs.lemmas.List.{get_or_past, get_or-take}
use lib.Bits.{xor_self, xor_zero_r}
use Rattle.gf301.specs.Field.{◌⊕◌, ◌⊗◌}
use Rattle.gf301.specs.Polynomial.{Bytes, coefficient, convolution}
use Rattle.gf301.proofs.Exported.{product_assoc, product_comm, product_one_left, product_one_right, product_zero_left}
use Rattle.gf301.proofs.Exported.{conv_below, conv_first, conv_same_left, conv_scale_left, conv_sum_left, conv_swap}
use Rattle.gf301.proofs.Exported.{conv_zero, product_at_zero, product_below, product_zero_at, same_functions, sum_below}
use Rattle.dm_code.specs.KeyEquation.{IsLeastPair, IsExact, NoPair}
use Rattle.dm_code.specs.inner.Ones.{IsOne}
use Rattle.dm_code.proofs.Connections.{Connects, first_is_least, none_connects, pair_connects}
use Rattle.dm_code.proofs.Multiples.{both_zero}

-- ---- how long what connects must be
-- What connects more values connects the first of them.
connects_fewer : (g s : ℕ → ℕ) (e n m : ℕ) → n ≤ m → Connects g s e m → Connects g s e n
connects_fewer g s e n m h c = record { one = c.one; degree = c.degree; gives = λ i l b. c.gives i l (omega arith) }

-- Where f connects n values and g one more, and their degrees together are at most n, f connects this one as well.
both_connect : (f g s : ℕ → ℕ) (d e n : ℕ) → Connects f s d n → Connects g s e (suc n) → d + e ≤ n →
    convolution f s n ≡ 0
both_connect f g s d e n cf cg h =
    let a : convolution g (convolution f s) n ≡ convolution f s n =
    conv_first g (convolution f s) n
    (λ i j l m. elim (cases_lt e i) [
      | inl above ↦ product_at_zero (g i) (convolution f s j) (cg.degree i above)
      | inr below ↦ product_zero_at (g i) (convolution f s j) (cf.gives j (omega arith) (omega arith))
    ])
    ∙ ap (λ y. y ⊗ convolution f s n) cg.one ∙ product_one_left (convolution f s n) (conv_below f s n) in
    let b : convolution f (convolution g s) n ≡ 0 =
    conv_zero f (convolution g s) n
    (λ i j m. elim (cases_lt d i) [
      | inl above ↦ product_at_zero (f i) (convolution g s j) (cf.degree i above)
      | inr below ↦ product_zero_at (f i) (convolution g s j) (cg.gives j (omega arith) (omega arith))
    ]) in
    sym a ∙ conv_swap g f s n ∙ b

-- A locator with a discrepancy at n bounds the degree of each one that connects the values up to n and more.
discrepancy_bounds : (f g s : ℕ → ℕ) (d e n m : ℕ) → Connects f s d n → 0 < convolution f s n → n < m →
    Connects g s e m → suc n ≤ d + e
discrepancy_bounds f g s d e n m cf p h cg =
    elim (cases_lt n (d + e)) [
      | inl a ↦ omega arith
      | inr b ↦ absurd (let z : convolution f s n ≡ 0 =
          both_connect f g s d e n cf (connects_fewer g s e (suc n) m (omega arith) cg) b in omega arith)
    ]

-- ---- series that are moved up
-- A series is moved up by m when it is multiplied by x^m.
unfoldable pub moved : ℕ → (ℕ → ℕ) → ℕ → ℕ
moved zero f i = f i
moved (suc m) f zero = 0
moved (suc m) f (suc i) = moved m f i

-- A series that is moved up by m begins with m zeros.
moved_before : (m : ℕ) (f : ℕ → ℕ) (i : ℕ) → i < m → moved m f i ≡ 0
unfolding moved
moved_before zero f i h = absurd (omega arith)
moved_before (suc m) f zero h = refl
moved_before (suc m) f (suc i) h = moved_before m f i (omega arith)

-- After these zeros it has the coefficients of f.
moved_at : (m : ℕ) (f : ℕ → ℕ) (i j : ℕ) → m + i ≡ j → moved m f j ≡ f i
unfolding moved
moved_at zero f i j h = ap f (let e : j ≡ i = omega arith in e)
moved_at (suc m) f i zero h = absurd (omega arith)
moved_at (suc m) f i (suc j) h = moved_at m f i j (omega arith)

-- If a series is moved up by one more, so is its product with another.
pub conv_moved : (m : ℕ) (f s : ℕ → ℕ) (n : ℕ) → convolution (moved (suc m) f) s (suc n) ≡ convolution (moved m f) s n
unfolding convolution moved
conv_moved m f s n = ap (λ y. y ⊕ convolution (moved m f) s n) (product_zero_left (s (suc n)))

-- Where the coefficients of f from a place on are 0, those of f moved up by one more are 0 from the next place on.
moved_degree : (m : ℕ) (f : ℕ → ℕ) (d n : ℕ) → ((i : ℕ) → n < d + i → moved m f i ≡ 0) → (i : ℕ) → suc n < d + i →
    moved (suc m) f i ≡ 0
unfolding moved
moved_degree m f d n h zero l = refl
moved_degree m f d n h (suc i) l = h i (omega arith)

-- Where coefficients of the product with f moved up are 0, those of the product with f moved up by one more are 0 one
-- place later.
moved_gives : (m : ℕ) (f s : ℕ → ℕ) (d n : ℕ) → ((i : ℕ) → suc n ≤ d + i → i < n → convolution (moved m f) s i ≡ 0) →
    (i : ℕ) → suc (suc n) ≤ d + i → i < suc n
    → convolution (moved (suc m) f) s i ≡ 0
unfolding convolution moved
moved_gives m f s d n h zero l b = product_zero_left (s 0)
moved_gives m f s d n h (suc i) l b = conv_moved m f s i ∙ h i (omega arith) (omega arith)

-- ---- what corrects
-- With f a locator of degree d that connects n values can be corrected at the place n: the degree of f is at most
-- n + 1 - d, and where d isn't 0, its product with s is 1 at n and 0 before it from n + 1 - d on.
record Corrects (f s : ℕ → ℕ) (d n : ℕ) : Type 0 where
  degree : (i : ℕ) → suc n < d + i → f i ≡ 0
  one : 0 < d → convolution f s n ≡ 1
  gives : 0 < d → (i : ℕ) → suc n ≤ d + i → i < n → convolution f s i ≡ 0

-- If what corrects is moved up by one more, it corrects at the next place.
corrects_next : (m : ℕ) (f s : ℕ → ℕ) (d n : ℕ) → Corrects (moved m f) s d n → Corrects (moved (suc m) f) s d (suc n)
corrects_next m f s d n c = record {
  degree = moved_degree m f d (suc n) c.degree;
  one = λ p. conv_moved m f s n ∙ c.one p;
  gives = λ p. moved_gives m f s d n (c.gives p);
}

-- A locator of degree d with a discrepancy at n, divided by it, corrects one of degree n + 1 - d there.
corrects_grown : (l s : ℕ → ℕ) (d e n y : ℕ) → Connects l s d n → d + e ≡ suc n → convolution l s n ⊗ y ≡ 1 →
    Corrects (moved 0 (λ i. y ⊗ l i)) s e n
unfolding moved
corrects_grown l s d e n y c h q = record {
  degree = λ i b. product_zero_at y (l i) (c.degree i (omega arith));
  one = λ p. conv_scale_left y l s n ∙ product_comm y (convolution l s n) ∙ q;
  gives = λ p i a b. conv_scale_left y l s i ∙ product_zero_at y (convolution l s i) (c.gives i (omega arith) b);
}

-- ---- one step
-- Without a discrepancy the locator stays.
connects_next : (l s : ℕ → ℕ) (d n : ℕ) → Connects l s d n → convolution l s n ≡ 0 → Connects l s d (suc n)
connects_next l s d n c z = record {
  one = c.one;
  degree = c.degree;
  gives = λ i a b. elim (cases_eq i n) [ inl e ↦ ap (convolution l s) e ∙ z | inr o ↦ c.gives i a (omega arith) ];
}

-- The sum of x and x times 1 is 0.
both_same : (x a b : ℕ) → x < 256 → a ≡ x → b ≡ 1 → a ⊕ x ⊗ b ≡ 0
both_same x a b h p q = ap (λ y. y ⊕ x ⊗ b) p ∙ ap (bit_xor x) (ap (λ y. x ⊗ y) q ∙ product_one_right x h) ∙ xor_self x

-- A locator with a discrepancy x, plus x times what corrects it, connects the next value too, with each degree e of at
-- least d and n + 1 - d.
connects_corrected : (l f g s : ℕ → ℕ) (d e n : ℕ) → Connects l s d n → Corrects f s d n → f 0 ≡ 0 → d ≤ e →
    suc n ≤ d + e → ((i : ℕ) → g i ≡ l i ⊕ convolution l s n ⊗ f i)
    → Connects g s e (suc n)
connects_corrected l f g s d e n c k z h q same =
    let x = convolution l s n in
    let conv = λ (i : ℕ). (let r : convolution g s i ≡ convolution l s i ⊕ x ⊗ convolution f s i =
    conv_same_left g (λ i. l i ⊕ x ⊗ f i) s i (λ j b. same j) ∙ conv_sum_left l (λ i. x ⊗ f i) s i
    ∙ ap (bit_xor (convolution l s i)) (conv_scale_left x f s i) in r) in
    record {
      one = same 0 ∙ ap (bit_xor (l 0)) (product_zero_at x (f 0) z) ∙ xor_zero_r (l 0) ∙ c.one;
      degree = λ i b. same i ∙ both_zero x (l i) (f i) (c.degree i (omega arith)) (k.degree i (omega arith));
      gives = λ i a b. conv i
          ∙ elim (cases_eq i n) [
            | inl t ↦ both_same x (convolution l s i) (convolution f s i) (conv_below l s n) (ap (convolution l s) t)
                (ap (convolution f s) t ∙ k.one (omega arith))
            | inr o ↦ both_zero x (convolution l s i) (convolution f s i) (c.gives i (omega arith) (omega arith))
                (k.gives (omega arith) i (omega arith) (omega arith))
          ];
    }

-- ---- what is kept
-- After n values of s: the locator l of degree d connects them, and none of a smaller degree does; y times the earlier
-- locator e, moved up by the gap, corrects at the next place.
pub record IsSearch (s l e : List ℕ) (y gap d n : ℕ) : Type 0 where
  pub room : d + gap ≤ n + 1
  pub short : (i : ℕ) → suc n < d + gap + i → coefficient e i ≡ 0
  pub bytes : (i : ℕ) → coefficient l i < 256
  pub below : d ≤ n
  pub some : 0 < gap
  pub connects : Connects (coefficient l) (coefficient s) d n
  pub least : (g : ℕ → ℕ) (c : ℕ) → Connects g (coefficient s) c n → d ≤ c
  corrects : Corrects (moved gap (λ i. y ⊗ coefficient e i)) (coefficient s) d n

-- What is kept still holds when its values are given other names.
pub restated : {s l e m f : List ℕ} {y z gap hap d c n k : ℕ} → IsSearch s l e y gap d n → l ≡ m → e ≡ f → y ≡ z →
    gap ≡ hap → d ≡ c → n ≡ k → IsSearch s m f z hap c k
restated {s = s} {l = l} {e = e} {f = f} {y = y} {z = z} {gap = gap} {hap = hap} {d = d} {c = c} {k = k} h p q r t u v =
    subst (λ x. IsSearch s x f z hap c k) p
    (subst (λ x. IsSearch s l x z hap c k) q
    (subst (λ x. IsSearch s l e x hap c k) r (subst (λ x. IsSearch s l e y x c k) t
    (subst (λ x. IsSearch s l e y gap x k) u (subst (λ x. IsSearch s l e y gap d x) v h)))))

-- What is kept still holds for lists with the same coefficients.
pub search_listed : {s l e m f : List ℕ} {y gap d n : ℕ} → IsSearch s l e y gap d n →
    ((i : ℕ) → coefficient l i ≡ coefficient m i) → ((i : ℕ) → coefficient e i ≡ coefficient f i)
    → IsSearch s m f y gap d n
search_listed {s = s} {l = l} {e = e} {m = m} {f = f} {y = y} {gap = gap} {d = d} {n = n} h p q = record {
  room = h.room;
  short = λ i b. sym (q i) ∙ h.short i b;
  bytes = λ i. subst (λ x. x < 256) (p i) (h.bytes i);
  below = h.below;
  some = h.some;
  connects =
      subst (λ (g : ℕ → ℕ). Connects g (coefficient s) d n) (same_functions {f = coefficient l} {g = coefficient m} p)
      h.connects;
  least = h.least;
  corrects =
      subst (λ (g : ℕ → ℕ). Corrects (moved gap (λ i. y ⊗ g i)) (coefficient s) d n)
      (same_functions {f = coefficient e} {g = coefficient f} q) h.corrects;
}

-- Coefficients that are 0 past a degree are those of the list up to it.
pub coefficients_taken : (l : List ℕ) (n : ℕ) → ((i : ℕ) → n ≤ i → coefficient l i ≡ 0) → (i : ℕ) →
    coefficient l i ≡ coefficient (take n l) i
coefficients_taken l n h i =
    elim (cases_lt i n) [
      | inl b ↦ sym (get_or-take n l i 0 b)
      | inr b ↦ h i b ∙ sym (get_or_past (take n l) i 0 (let q : length (take n l) ≤ i =
          simp length-take (omega arith) in q))
    ]

-- So it does for the coefficients of the locator up to its degree.
pub search_taken : {s l e p : List ℕ} {y gap d n : ℕ} → IsSearch s l e y gap d n → p ≡ take (d + 1) l →
    IsSearch s p e y gap d n
search_taken {l = l} {d = d} h q =
    search_listed h (λ i. coefficients_taken l (d + 1) (λ j b. h.connects.degree j (omega arith)) i
    ∙ ap (λ u. coefficient u i) (sym q)) (λ i. refl)

-- These have the locator's product with the values.
pub taken_product : {s l e p : List ℕ} {y gap d n : ℕ} → IsSearch s l e y gap d n → p ≡ take (d + 1) l → (i : ℕ) →
    convolution (coefficient p) (coefficient s) i ≡ convolution (coefficient l) (coefficient s) i
taken_product {s = s} {l = l} {p = p} {d = d} h q i =
    conv_same_left (coefficient p) (coefficient l) (coefficient s) i
    (λ j b. ap (λ u. coefficient u j) q ∙ sym (coefficients_taken l (d + 1) (λ k c. h.connects.degree k (omega arith))
    j))

-- Zeros are the coefficients 0.
pub zeros_everywhere : (n i : ℕ) → coefficient (replicate n 0) i ≡ 0
zeros_everywhere zero i = refl
zeros_everywhere (suc n) zero = refl
zeros_everywhere (suc n) (suc i) = zeros_everywhere n i

-- Past the 1 of a list of 1 and zeros the coefficients are 0.
later_zeros : (n i : ℕ) → 0 < i → coefficient (1 ∷ replicate n 0) i ≡ 0
later_zeros n zero h = absurd (omega arith)
later_zeros n (suc i) h = zeros_everywhere n i

-- A list of 1 and zeros is the polynomial 1.
pub one_before_zeros : (n : ℕ) → IsOne (1 ∷ replicate n 0)
one_before_zeros n = record { one = refl; zeros = later_zeros n }

-- The coefficients of the polynomial 1 are bytes.
one_below : (p : List ℕ) → IsOne p → (i : ℕ) → coefficient p i < 256
one_below p h zero = subst (λ x. x < 256) (sym h.one) (omega arith)
one_below p h (suc i) = subst (λ x. x < 256) (sym (h.zeros (suc i) (omega arith))) (omega arith)

-- Before any value is taken, the locator 1 is kept.
pub search_start : (s l e : List ℕ) → IsOne l → IsOne e → IsSearch s l e 1 1 0 0
unfolding moved
search_start s l e h k = record {
  room = omega arith;
  short = λ i b. k.zeros i (omega arith);
  bytes = one_below l h;
  below = omega arith;
  some = omega arith;
  connects = record { one = h.one; degree = λ i b. h.zeros i b; gives = λ i a b. absurd (omega arith) };
  least = λ g c k. omega arith;
  corrects = record {
    degree =
        moved_degree 0 (λ i. 1 ⊗ coefficient e i) 0 0
        (λ i h. product_zero_at 1 (coefficient e i) (k.zeros i (omega arith)));
    one = λ p. absurd (omega arith);
    gives = λ p. absurd (omega arith);
  };
}

-- The next value is taken without a change of the locator where there is no discrepancy.
pub search_kept : {s l e : List ℕ} {y gap d n : ℕ} → IsSearch s l e y gap d n →
    convolution (coefficient l) (coefficient s) n ≡ 0 → IsSearch s l e y (suc gap) d (suc n)
search_kept {s = s} {l = l} {e = e} {y = y} {gap = gap} {d = d} {n = n} h z = record {
  room = omega (arith, h.room);
  short = λ i b. h.short i (omega arith);
  bytes = h.bytes;
  below = omega (arith, h.below);
  some = omega arith;
  connects = connects_next (coefficient l) (coefficient s) d n h.connects z;
  least = λ g c k. h.least g c (connects_fewer g (coefficient s) c n (suc n) (omega arith) k);
  corrects = corrects_next gap (λ i. y ⊗ coefficient e i) (coefficient s) d n h.corrects;
}

-- The list m is the sum of l and x times y times e, moved up by the gap.
pub record IsCorrected (l e m : List ℕ) (x y gap : ℕ) : Type 0 where
  pub low : (i : ℕ) → i < gap → coefficient m i ≡ coefficient l i
  pub high : (i : ℕ) → coefficient m (gap + i) ≡ coefficient l (gap + i) ⊕ (x ⊗ y) ⊗ coefficient e i

-- At each place m is the coefficient of l plus x times that of y times e, moved up by the gap.
pub corrected_at : (l e m : List ℕ) (x y gap : ℕ) → IsCorrected l e m x y gap → (i : ℕ) →
    coefficient m i ≡ coefficient l i ⊕ x ⊗ moved gap (λ j. y ⊗ coefficient e j) i
corrected_at l e m x y gap h i =
    let f = λ (j : ℕ). y ⊗ coefficient e j in
    elim (cases_lt i gap) [
      | inl b ↦ h.low i b ∙ sym (ap (bit_xor (coefficient l i))
          (product_zero_at x (moved gap f i) (moved_before gap f i b)) ∙ xor_zero_r (coefficient l i))
      | inr b ↦
          let j = i - gap in
          let q : gap + j ≡ i = omega arith in
          ap (coefficient m) (sym q) ∙ h.high j ∙ ap (λ k. coefficient l k ⊕ (x ⊗ y) ⊗ coefficient e j) q
          ∙ ap (bit_xor (coefficient l i)) (product_assoc x y (coefficient e j)
          ∙ ap (λ z. x ⊗ z) (sym (moved_at gap f j i q)))
    ]

-- The corrected coefficients are bytes.
bytes_corrected : (l e m : List ℕ) (x y gap : ℕ) → IsCorrected l e m x y gap → ((i : ℕ) → coefficient l i < 256) →
    (i : ℕ) → coefficient m i < 256
bytes_corrected l e m x y gap h b i =
    let z = moved gap (λ j. y ⊗ coefficient e j) i in
    subst (λ v. v < 256) (sym (corrected_at l e m x y gap h i))
    (sum_below (coefficient l i) (x ⊗ z) (b i) (product_below x z))

-- The corrected locator connects the next value as well.
search_connects : (s l e m : List ℕ) (x y gap d c n : ℕ) → IsSearch s l e y gap d n →
    x ≡ convolution (coefficient l) (coefficient s) n → IsCorrected l e m x y gap
    → d ≤ c → suc n ≤ d + c → Connects (coefficient m) (coefficient s) c (suc n)
search_connects s l e m x y gap d c n h q k a b =
    let f = moved gap (λ j. y ⊗ coefficient e j) in
    connects_corrected (coefficient l) f (coefficient m) (coefficient s) d c n h.connects h.corrects
    (moved_before gap (λ j. y ⊗ coefficient e j) 0 h.some) a b
    (λ i. corrected_at l e m x y gap k i ∙ ap (λ z. coefficient l i ⊕ z ⊗ f i) q)

-- The next value is taken with a correction that leaves the degree as it is.
pub search_same : {s l e m : List ℕ} {x y gap d n : ℕ} → IsSearch s l e y gap d n →
    x ≡ convolution (coefficient l) (coefficient s) n → IsCorrected l e m x y gap
    → suc n ≤ d + d → IsSearch s m e y (suc gap) d (suc n)
search_same {s = s} {l = l} {e = e} {m = m} {x = x} {y = y} {gap = gap} {d = d} {n = n} h q k b = record {
  room = omega (arith, h.room);
  short = λ i b. h.short i (omega arith);
  bytes = bytes_corrected l e m x y gap k h.bytes;
  below = omega (arith, h.below);
  some = omega arith;
  connects = search_connects s l e m x y gap d d n h q k (omega arith) b;
  least = λ g c k. h.least g c (connects_fewer g (coefficient s) c n (suc n) (omega arith) k);
  corrects = corrects_next gap (λ i. y ⊗ coefficient e i) (coefficient s) d n h.corrects;
}

-- The next value is taken with a correction by which the degree grows to c.
pub search_grown : {s l e m : List ℕ} {x y z gap d c n : ℕ} → IsSearch s l e y gap d n →
    x ≡ convolution (coefficient l) (coefficient s) n → IsCorrected l e m x y gap
    → 0 < x → x ⊗ z ≡ 1 → d ≤ c → d + c ≡ suc n → IsSearch s m l z 1 c (suc n)
search_grown {s = s} {l = l} {e = e} {m = m} {x = x} {y = y} {z = z} {gap = gap} {d = d} {c = c} {n = n} h q k p o a b =
    record {
      room = omega (arith, b);
      short = λ i r. h.connects.degree i (omega arith);
      bytes = bytes_corrected l e m x y gap k h.bytes;
      below = omega (arith, h.below);
      some = omega arith;
      connects = search_connects s l e m x y gap d c n h q k a (omega arith);
      least = λ g w k.
          let t : suc n ≤ d + w =
          discrepancy_bounds (coefficient l) g (coefficient s) d w n (suc n) h.connects (subst (λ v. 0 < v) q p)
          (omega arith) k in
          omega arith;
      corrects =
          corrects_next 0 (λ i. z ⊗ coefficient l i) (coefficient s) c n
          (corrects_grown (coefficient l) (coefficient s) d c n z h.connects b (ap (λ v. v ⊗ z) (sym q) ∙ o));
    }

-- ---- the results
-- Where the degree would grow above t, there is no pair within t.
pub search_refuses : {s l e : List ℕ} {x y gap d n t : ℕ} → IsSearch s l e y gap d n →
    x ≡ convolution (coefficient l) (coefficient s) n → 0 < x → n < length s → d + t < suc n → NoPair s t
search_refuses {s = s} {l = l} {d = d} {n = n} {t = t} h q p b a =
    none_connects s t (λ c k g w.
    let r : suc n ≤ d + c =
    discrepancy_bounds (coefficient l) g (coefficient s) d c n (length s) h.connects (subst (λ v. 0 < v) q p) b w in
    omega arith)

-- After all values the locator and the coefficients of its product below its degree are the least pair.
pub search_results : {s l e w : List ℕ} {y gap d n t : ℕ} → IsSearch s l e y gap d n → n ≡ length s → d ≤ t → Bytes l →
    Bytes w → length w ≡ d
    → ((i : ℕ) → i < length w → coefficient w i ≡ convolution (coefficient l) (coefficient s) i) → IsLeastPair s t l w
search_results {s = s} {l = l} {w = w} {d = d} {t = t} h q b bl bw r a =
    first_is_least s l w t d b
    (λ c k g v. let z : d ≤ c = h.least g c (subst (λ m. Connects g (coefficient s) c m) (sym q) v) in omega arith)
    (subst (λ m. Connects (coefficient l) (coefficient s) d m) q h.connects) bl bw r (λ i c. a i (omega arith))

-- Its lists have no number too many, since no locator of a smaller degree connects the values.
pub search_exact : {s l e w : List ℕ} {y gap d n t : ℕ} → IsSearch s l e y gap d n → n ≡ length s → length l ≡ d + 1 →
    length w ≡ d → IsLeastPair s t l w → IsExact l w
search_exact {s = s} {l = l} {w = w} {d = d} {t = t} h q k r p = record {
  locator = omega arith;
  evaluator = λ c b.
      let z : d ≤ c =
      h.least (coefficient l) c (subst (λ m. Connects (coefficient l) (coefficient s) c m) (sym q)
      (pair_connects s l w t c p.pair b)) in
      omega arith;
}
