-- How many coefficients a polynomial has without the zeros at its end, and how that bounds its degree.
use Rattle.std.proofs.Common.{◌≡◌, ℕ, zero, suc, ◌≤◌, List, [], ◌∷◌, refl, arith}
use Rattle.dm_code.specs.KeyEquation.{IsBelow}

-- One coefficient more in front adds one to the extent, unless all coefficients are then 0.
grown : ℕ → ℕ → ℕ
grown a (suc n) = suc (suc n)
grown zero zero = zero
grown (suc a) zero = 1

-- If the extent is 0, the coefficient in front is 0.
grown_zero : (a n : ℕ) → grown a n ≤ 0 → a ≡ 0
unfolding grown
grown_zero a (suc n) h = absurd (omega arith)
grown_zero zero zero h = refl
grown_zero (suc a) zero h = absurd (omega arith)

-- The coefficients behind the first have an extent that is less by one at least.
grown_tail : (a n i : ℕ) → grown a n ≤ suc i → n ≤ i
unfolding grown
grown_tail a (suc n) i h = omega arith
grown_tail a zero i h = omega arith

-- If the extent is 0, so is that of the coefficients behind the first.
grown_tail_zero : (a n i : ℕ) → grown a n ≤ 0 → n ≤ i
unfolding grown
grown_tail_zero a (suc n) i h = absurd (omega arith)
grown_tail_zero a zero i h = omega arith

-- A 0 in front of a zero polynomial leaves the extent 0.
grown_nothing : (a n : ℕ) → a ≡ 0 → n ≤ 0 → grown a n ≤ 0
unfolding grown
grown_nothing a (suc n) e h = absurd (omega arith)
grown_nothing zero zero e h = omega arith
grown_nothing (suc a) zero e h = absurd (omega arith)

-- One more coefficient adds at most one to the extent.
grown_most : (a n m : ℕ) → n ≤ m → grown a n ≤ suc m
unfolding grown
grown_most a (suc n) m h = omega arith
grown_most zero zero m h = omega arith
grown_most (suc a) zero m h = omega arith

-- The extent is the number of coefficients without the zeros at the end: one more than the degree, and 0 for the zero
-- polynomial.
pub extent : List ℕ → ℕ
extent [] = 0
extent (a ∷ p) = grown a (extent p)

-- The degree is below each number that the extent is at most.
pub below_extent : (n : ℕ) (p : List ℕ) → extent p ≤ n → IsBelow n p
unfolding extent
below_extent n [] h i l = refl
below_extent zero (a ∷ p) h zero l = grown_zero a (extent p) h
below_extent zero (a ∷ p) h (suc i) l = below_extent 0 p (grown_tail_zero a (extent p) 0 h) i (omega arith)
below_extent (suc n) (a ∷ p) h zero l = absurd (omega arith)
below_extent (suc n) (a ∷ p) h (suc i) l = below_extent n p (grown_tail a (extent p) n h) i (omega arith)

-- Where the degree is below a number, the extent is at most this number.
pub extent_most : (n : ℕ) (p : List ℕ) → IsBelow n p → extent p ≤ n
unfolding extent
extent_most n [] h = omega arith
extent_most zero (a ∷ p) h =
    grown_nothing a (extent p) (h 0 (omega arith)) (extent_most 0 p (λ i l. h (suc i) (omega arith)))
extent_most (suc n) (a ∷ p) h = grown_most a (extent p) n (extent_most n p (λ i l. h (suc i) (omega arith)))
