-- Sums and multiples of lists of coefficients, as proofs take polynomials apart.
use Rattle.std.specs.Prelude.{ℕ, zero, suc, List, [], ◌∷◌, map}
use Rattle.gf301.specs.Field.{◌⊕◌, ◌⊗◌}

-- The sum of two polynomials of one length is taken place by place.
unfoldable pub plus : List ℕ → List ℕ → List ℕ
plus [] q = []
plus (a ∷ p) [] = []
plus (a ∷ p) (b ∷ q) = (a ⊕ b) ∷ plus p q

-- A polynomial times an element has each coefficient times this element.
unfoldable pub scale : ℕ → List ℕ → List ℕ
scale a p = map (λ b. a ⊗ b) p

-- The places of a list that are not 0 are counted.
unfoldable pub nonzeros : List ℕ → ℕ
nonzeros [] = 0
nonzeros (zero ∷ e) = nonzeros e
nonzeros (suc a ∷ e) = suc (nonzeros e)
