-- The key equation of one Reed-Solomon block. Its polynomials are lists of bytes with the lowest power first, and zeros
-- at a list's end don't matter. The polynomial of a list of syndromes has them as coefficients, in their order.
use Rattle.std.specs.Prelude.{◌≡◌, ℕ, suc, ◌<◌, ◌≤◌, List, length}
use Rattle.gf301.specs.Polynomial.{Bytes, coefficient, convolution}

-- The degree of p is below n: its coefficients from x^n on are 0. The zero polynomial has the degree -1.
abbrev pub IsBelow : ℕ → List ℕ → Type 0
IsBelow n p = (i : ℕ) → n ≤ i → coefficient p i ≡ 0

-- The larger of deg l and deg w + 1 is at most d.
pub record IsWithin (d : ℕ) (l w : List ℕ) : Type 0 where
  pub locator : IsBelow (suc d) l
  pub evaluator : IsBelow d w

-- A locator l and an evaluator w solve the key equation of the syndromes s within t: l(0) = 1, deg l is at most t and
-- deg w below t, and l * s - w is a multiple of x^k, k being the number of syndromes: below x^k both have the same
-- coefficients.
pub record IsPair (s : List ℕ) (t : ℕ) (l w : List ℕ) : Type 0 where
  pub locator_bytes : Bytes l
  pub evaluator_bytes : Bytes w
  pub one : coefficient l 0 ≡ 1
  pub within : IsWithin t l w
  pub equation : (i : ℕ) → i < length s → convolution (coefficient l) (coefficient s) i ≡ coefficient w i

-- A pair is the least if the larger of deg l and deg w + 1 is at most that of any other pair.
pub record IsLeastPair (s : List ℕ) (t : ℕ) (l w : List ℕ) : Type 0 where
  pub pair : IsPair s t l w
  pub least : (g v : List ℕ) → IsPair s t g v → (d : ℕ) → IsWithin d g v → IsWithin d l w

-- The lists of a pair have no number too many: the evaluator has as many as the larger of deg l and deg w + 1, and the
-- locator has one more.
pub record IsExact (l w : List ℕ) : Type 0 where
  pub locator : length l ≡ suc (length w)
  pub evaluator : (d : ℕ) → IsWithin d l w → length w ≤ d

-- There is no pair within t.
abbrev pub NoPair : List ℕ → ℕ → Type 0
NoPair s t = (l w : List ℕ) → IsPair s t l w → ⊥
