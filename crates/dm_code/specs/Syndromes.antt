-- The syndromes of a word of one Reed-Solomon block of ISO/IEC 16022, ECC 200.
use Rattle.std.specs.Prelude.{ℕ, List}
use Rattle.gf301.specs.Field.{power}
use Rattle.gf301.specs.Polynomial.{value, values_from}

-- The k syndromes of a word are its values at 2^1 to 2^k, the roots of the generator for k check codewords, in this
-- order.
abbrev pub syndromes_of : List ℕ → ℕ → List ℕ
syndromes_of word k = values_from (λ i. value word (power i)) 1 k
