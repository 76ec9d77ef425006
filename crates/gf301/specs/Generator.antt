-- The generator polynomials of the Reed-Solomon codes of ISO/IEC 16022, ECC 200.
use Rattle.std.specs.Prelude.{ℕ, zero, suc, List, [], ◌∷◌}
use Rattle.gf301.specs.Field.{raise}
use Rattle.gf301.specs.Polynomial.{times}

-- The generator for k check codewords is (x - 2^1) (x - 2^2) .. (x - 2^k). A difference of elements is their sum.
unfoldable pub generator : ℕ → List ℕ
generator zero = 1 ∷ []
generator (suc k) = times (1 ∷ raise 2 (suc k) ∷ []) (generator k)
