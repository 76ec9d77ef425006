-- Polynomials over the field: lists of coefficients, the highest power first. Zeros at the head are allowed, so
-- lists of several lengths stand for one polynomial; the definitions speak of lists. A sum of polynomials has no name
-- here: the codes are defined by products and values alone.
use Rattle.std.specs.Prelude.{ℕ, zero, suc, ◌+◌, ◌-◌, ◌<◌, List, [], ◌∷◌, length, map, get_or}
use Rattle.std.specs.List.{All, range_with_len}
use Rattle.gf301.specs.Field.{◌⊕◌, ◌⊗◌, raise}

-- Each coefficient is a field element, a number of 0 to 255.
abbrev pub Bytes : List ℕ → Type 0
Bytes p = All (λ a. a < 256) p

-- The value at x is the sum of each coefficient times its power of x; for the empty list it is 0.
unfoldable pub value : List ℕ → ℕ → ℕ
value [] x = 0
value (a ∷ p) x = a ⊗ raise x (length p) ⊕ value p x

-- The coefficients of a list are its numbers, at places counted from 0 at its head; past its end they are 0.
abbrev pub coefficient : List ℕ → ℕ → ℕ
coefficient p i = get_or p i 0

-- The coefficient at place n of the product of two series, which are functions from a place to its coefficient, is the
-- sum of f j times g (n - j), for each j of 0 to n. Place 0 is the highest power in both, or the lowest in both.
unfoldable pub convolution : (ℕ → ℕ) → (ℕ → ℕ) → ℕ → ℕ
convolution f g zero = f 0 ⊗ g 0
convolution f g (suc n) = f 0 ⊗ g (suc n) ⊕ convolution (λ j. f (suc j)) g n

-- These are the values of f at `first` and the places that follow it, `count` in all.
unfoldable pub values_from : (ℕ → ℕ) → ℕ → ℕ → List ℕ
values_from f first zero = []
values_from f first (suc count) = f first ∷ values_from f (suc first) count

-- The product of two polynomials of n and m coefficients has n + m - 1 coefficients (none where both are empty), each
-- the sum of the products of a coefficient of p and one of q whose places add up to its own.
unfoldable pub times : List ℕ → List ℕ → List ℕ
times p q = map (convolution (coefficient p) (coefficient q)) (range_with_len 0 (length p + length q - 1))
