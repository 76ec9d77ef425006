-- What holds of the key equation of one Reed-Solomon block: there is a least pair where there is a pair, and with 2 t
-- at most the number of syndromes it is one, and each pair is a multiple of it.
use Rattle.std.specs.Prelude.{◌≡◌, ℕ, ◌*◌, ◌≤◌, List, length}
use Rattle.gf301.specs.Polynomial.{Bytes, coefficient, convolution}
use Rattle.dm_code.specs.KeyEquation.{IsPair, IsLeastPair, IsExact}

-- Two lists are equal as polynomials.
abbrev pub IsSamePolynomial : List ℕ → List ℕ → Type 0
IsSamePolynomial p q = (i : ℕ) → coefficient p i ≡ coefficient q i

-- The polynomial p is the product of q and l.
abbrev pub IsProduct : List ℕ → List ℕ → List ℕ → Type 0
IsProduct p q l = (i : ℕ) → coefficient p i ≡ convolution (coefficient q) (coefficient l) i

-- The pair (g, v) is (q * l, q * w), for some q with q(0) = 1.
pub record IsMultiple (l w g v : List ℕ) : Type 0 where
  pub factor : List ℕ
  pub bytes : Bytes factor
  pub one : coefficient factor 0 ≡ 1
  pub locator : IsProduct g factor l
  pub evaluator : IsProduct v factor w

-- With 2 t at most the number of syndromes, every pair within t is a multiple of the least pair.
abbrev pub PairsAreMultiples : Type 0
PairsAreMultiples = (s l w g v : List ℕ) (t : ℕ) → 2 * t ≤ length s → IsLeastPair s t l w → IsPair s t g v →
    IsMultiple l w g v

-- With 2 t at most the number of syndromes, two least pairs are equal as polynomials.
abbrev pub LeastPairIsOne : Type 0
LeastPairIsOne = (s l w g v : List ℕ) (t : ℕ) → 2 * t ≤ length s → IsLeastPair s t l w → IsLeastPair s t g v →
    IsSamePolynomial l g × IsSamePolynomial w v

-- With 2 t at most the number of syndromes, two least pairs whose lists have no number too many are the same lists.
abbrev pub ExactLeastPairIsOne : Type 0
ExactLeastPairIsOne =
    (s l w g v : List ℕ) (t : ℕ) → 2 * t ≤ length s → IsLeastPair s t l w → IsLeastPair s t g v → IsExact l w →
    IsExact g v → (l ≡ g) × (w ≡ v)

-- Where there is a pair, there is a least pair.
abbrev pub LeastPairIsThere : Type 0
LeastPairIsThere = (s g v : List ℕ) (t : ℕ) → IsPair s t g v → (l : List ℕ) × (w : List ℕ) × IsLeastPair s t l w
