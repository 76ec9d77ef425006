-- How many products the algorithm of Berlekamp and Massey makes.
use Rattle.std.proofs.Common.{◌≡◌, ℕ, zero, suc, ◌+◌, ◌-◌, ◌*◌, ◌<◌, ◌≤◌, subst, arith}
use Rattle.std.proofs.lemmas.Nat.{mul-le}

-- One more value adds at most 2 t + 3 products: t + 1 for the discrepancy, and t + 2 for the correction.
pub step_products : (n t p q : ℕ) → p ≤ n * (2 * t + 3) → q ≤ p + (2 * t + 3) → q ≤ (n + 1) * (2 * t + 3)
step_products n t p q h l = omega arith

-- A number is at most its square.
below_square : (n : ℕ) → n ≤ n * n
below_square zero = omega arith
below_square (suc n) = omega arith

-- With u more values than 2 t, the products, those of the evaluator among them, are at most 4 times the square of the
-- number of values.
products_over : (t u d p q : ℕ) → d ≤ t → p ≤ (2 * t + u) * (2 * t + 3) → q ≤ p + d * (d + 1) →
    q ≤ 4 * (2 * t + u) * (2 * t + u)
products_over t u d p q b l m =
    omega (arith, mul-le d (d + 1) t (t + 1) b (omega arith), below_square t, below_square u)

-- For k values there are at most 4 k k products.
pub all_products : (k t d p q : ℕ) → 2 * t ≤ k → d ≤ t → p ≤ k * (2 * t + 3) → q ≤ p + d * (d + 1) → q ≤ 4 * k * k
all_products k t d p q h b l m =
    let e : 2 * t + (k - 2 * t) ≡ k = omega arith in
    subst (λ n. p ≤ n * (2 * t + 3) → q ≤ 4 * n * n) e (λ a. products_over t (k - 2 * t) d p q b a m) l

-- With k values, one more adds at most k + t + 3 products where products with the values are kept: one for the factor,
-- k for the product, and t + 2 for the locator.
pub step_with_products : (n k t p q : ℕ) → 2 * t ≤ k → 0 < k → p ≤ n * (4 * k) → q ≤ p + (k + t + 3) →
    q ≤ (n + 1) * (4 * k)
step_with_products n k t p q h b l m = omega arith

-- For up to k values of at most 4 k products each there are at most 4 k k.
pub products_by_steps : (n k p : ℕ) → n ≤ k → p ≤ n * (4 * k) → p ≤ 4 * k * k
products_by_steps n k p h l = omega (arith, mul-le n (4 * k) k (4 * k) h (omega arith))
