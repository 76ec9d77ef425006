-- The key equation as a system of linear equations.
use Rattle.std.proofs.Common.{◌≡◌, ℕ, zero, suc, ◌+◌, ◌-◌, ◌<◌, ◌≤◌, List, length, sym, ap, ◌∙◌, arith, bit_xor}
use Rattle.std.proofs.lemmas.List.{get_or_past}
use Rattle.gf301.specs.Field.{◌⊕◌, ◌⊗◌}
use Rattle.gf301.specs.Polynomial.{coefficient, convolution}
use Rattle.dm_code.proofs.Connections.{Connects}
use Rattle.dm_code.specs.declared.limits.TheConstants.{MOST_ERRORS}
use Rattle.dm_code.specs.inner.LinearSystem.{dot, row, Solves, Unsolvable}
use lib.Bits.{xor_zero_r}
use Rattle.gf301.proofs.Exported.{product_zero_right, conv_comm, conv_same_left, shift}

-- The first values of a product at a place above the degree meet coefficients 0, and can be left out.
conv_skip : (s l : ℕ → ℕ) (o e : ℕ) → ((j : ℕ) → e < j → l j ≡ 0) →
    convolution s l (o + e) ≡ convolution (λ m. s (o + m)) l e
unfolding convolution
conv_skip s l zero e z =
    ap (convolution s l) (let r : 0 + e ≡ e = omega arith in r)
    ∙ conv_same_left s (λ m. s (0 + m)) l e (λ i h. ap s (let r : i ≡ 0 + i = omega arith in r))
conv_skip s l (suc o) e z =
    ap (convolution s l) (let r : suc o + e ≡ suc (o + e) = omega arith in r)
    ∙ ap (λ y. y ⊕ convolution (shift s) l (o + e)) (ap (λ y. s 0 ⊗ y) (z (suc (o + e)) (omega arith))
    ∙ product_zero_right (s 0))
    ∙ conv_skip (shift s) l o e z
    ∙ conv_same_left (λ m. s (suc (o + m))) (λ m. s (suc o + m)) l e
    (λ i h. ap s (let r : suc (o + i) ≡ suc o + i = omega arith in r))

-- The product of a row of values and the unknowns in reverse is a coefficient of the product of both.
dot_conv : (f v s l : ℕ → ℕ) (c e : ℕ) → ((m : ℕ) → m ≤ e → f (c + m) ≡ s m) →
    ((m : ℕ) → m ≤ e → v (c + m) ≡ l (e - m)) → dot f v c (suc e) ≡ convolution s l e
unfolding dot convolution
dot_conv f v s l c zero h k =
    ap (λ i. f i ⊗ v c ⊕ 0) (let r : c ≡ c + 0 = omega arith in r) ∙ ap (λ y. y ⊗ v c ⊕ 0) (h 0 (omega arith))
    ∙ ap (λ i. s 0 ⊗ v i ⊕ 0) (let r : c ≡ c + 0 = omega arith in r) ∙ ap (λ y. s 0 ⊗ y ⊕ 0) (k 0 (omega arith))
    ∙ xor_zero_r (s 0 ⊗ l 0)
dot_conv f v s l c (suc e) h k =
    ap (λ i. f i ⊗ v c ⊕ dot f v (suc c) (suc e)) (let r : c ≡ c + 0 = omega arith in r)
    ∙ ap (λ y. y ⊗ v c ⊕ dot f v (suc c) (suc e)) (h 0 (omega arith))
    ∙ ap (λ i. s 0 ⊗ v i ⊕ dot f v (suc c) (suc e)) (let r : c ≡ c + 0 = omega arith in r)
    ∙ ap (λ y. s 0 ⊗ y ⊕ dot f v (suc c) (suc e)) (k 0 (omega arith))
    ∙ ap (λ i. s 0 ⊗ l i ⊕ dot f v (suc c) (suc e)) (let r : suc e - 0 ≡ suc e = omega arith in r)
    ∙ ap (bit_xor (s 0 ⊗ l (suc e)))
    (dot_conv f v (shift s) l (suc c) e
    (λ m b. ap f (let r : suc c + m ≡ c + suc m = omega arith in r) ∙ h (suc m) (omega arith))
    (λ m b. ap v (let r : suc c + m ≡ c + suc m = omega arith in r) ∙ k (suc m) (omega arith)
    ∙ ap l (let r : suc e - suc m ≡ e - m = omega arith in r)))

-- The system of the degree e has a row for each place from e on, and its unknowns are the last e + 1 of those up to
-- `MOST_ERRORS`.
pub record IsSystem (s : List ℕ) (e : ℕ) (rows : List (List ℕ)) : Type 0 where
  pub long : length rows + e ≡ length s
  pub each : (i : ℕ) → i + e < length s → (m : ℕ) → m ≤ e → row rows i (MOST_ERRORS - e + m) ≡ coefficient s (i + m)

-- Each row of the system gives a coefficient of the product of the locator and the values.
system_dot : (s : List ℕ) (e : ℕ) (rows : List (List ℕ)) (v l : ℕ → ℕ) (i : ℕ) → e ≤ MOST_ERRORS → IsSystem s e rows →
    ((j : ℕ) → e < j → l j ≡ 0) → ((j : ℕ) → j ≤ e → l j ≡ v (MOST_ERRORS - j))
    → i < length rows → dot (row rows i) v (MOST_ERRORS - e) (suc e) ≡ convolution l (coefficient s) (i + e)
system_dot s e rows v l i h y z k b =
    dot_conv (row rows i) v (λ m. coefficient s (i + m)) l (MOST_ERRORS - e) e
    (λ m q. y.each i (omega (arith, y.long)) m q)
    (λ m q. ap v (let r : MOST_ERRORS - e + m ≡ MOST_ERRORS - (e - m) = omega arith in r)
    ∙ sym (k (e - m) (omega arith)))
    ∙ sym (conv_skip (coefficient s) l i e z) ∙ conv_comm (coefficient s) l (i + e)

-- Where the system has no solution, nothing of the degree e connects the values.
pub unsolvable_none : (s : List ℕ) (e : ℕ) (rows : List (List ℕ)) → e ≤ MOST_ERRORS → IsSystem s e rows →
    Unsolvable rows (MOST_ERRORS - e) e → (g : ℕ → ℕ) → Connects g (coefficient s) e (length s) → ⊥
unsolvable_none s e rows h y u g c =
    let v = λ (m : ℕ). g (MOST_ERRORS - m) in
    u v (record {
      last = ap g (let r : MOST_ERRORS - (MOST_ERRORS - e + e) ≡ 0 = omega arith in r) ∙ c.one;
      each =
          λ i b. system_dot s e rows v g i h y c.degree
          (λ j q. ap g (let r : j ≡ MOST_ERRORS - (MOST_ERRORS - j) = omega arith in r)) b
          ∙ c.gives (i + e) (omega arith) (omega (arith, y.long));
    })

-- A solution of the system connects the values.
pub solved_connects : (s : List ℕ) (e : ℕ) (rows : List (List ℕ)) (v l : List ℕ) → e ≤ MOST_ERRORS → IsSystem s e rows →
    Solves rows (MOST_ERRORS - e) e (coefficient v) → length l ≡ e + 1 →
    ((i : ℕ) → i ≤ e → coefficient l i ≡ coefficient v (MOST_ERRORS - i))
    → Connects (coefficient l) (coefficient s) e (length s)
solved_connects s e rows v l h y u n k =
    let z : (j : ℕ) → e < j → coefficient l j ≡ 0 = λ j q. get_or_past l j 0 (omega arith) in
    record {
      one =
          k 0 (omega arith) ∙ ap (coefficient v) (let r : MOST_ERRORS - 0 ≡ MOST_ERRORS - e + e = omega arith in r)
          ∙ u.last;
      degree = z;
      gives = λ i a b.
          let q : i - e < length rows = omega (arith, y.long) in
          ap (convolution (coefficient l) (coefficient s)) (let r : i ≡ (i - e) + e = omega arith in r)
          ∙ sym (system_dot s e rows (coefficient v) (coefficient l) (i - e) h y z k q) ∙ u.each (i - e) q;
    }
