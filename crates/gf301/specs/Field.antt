-- The field of 256 elements of ISO/IEC 16022: a byte is a polynomial over bits, the highest bit first, and
-- polynomials count modulo x^8 + x^5 + x^3 + x^2 + 1, whose bits are the number 301. Elements are numbers of 0 to
-- 255. The product is total: of a larger number its low byte counts.
use Rattle.std.specs.Prelude.{ℕ, zero, suc, ◌+◌, ◌*◌, ◌/◌, ◌%◌, ◌^◌, bit_xor}

infixl 60 ◌⊕◌
infixl 70 ◌⊗◌
-- The sum of two elements is their exclusive or.
abbrev pub ◌⊕◌ : ℕ → ℕ → ℕ
a ⊕ b = bit_xor a b

-- Bit i of a number is the one of weight 2 ^ i.
abbrev pub bit : ℕ → ℕ → ℕ
bit a i = a / 2 ^ i % 2

-- The product without carries of b and the n low bits of a is the sum of b shifted by i, over each bit i of a that is
-- 1.
unfoldable pub carryless : ℕ → ℕ → ℕ → ℕ
carryless zero a b = 0
carryless (suc i) a b = bit a i * (b * 2 ^ i) ⊕ carryless i a b

-- This is what is left modulo 301 of a polynomial whose bits lie below 8 + n: from the highest bit down to bit 8, 301
-- shifted to end there is taken away (exclusive or) where the bit is 1.
unfoldable pub modulo_301 : ℕ → ℕ → ℕ
modulo_301 zero p = p
modulo_301 (suc i) p = modulo_301 i (p ⊕ bit p (8 + i) * (301 * 2 ^ i))

-- The product of two elements is their product without carries, modulo 301.
unfoldable pub ◌⊗◌ : ℕ → ℕ → ℕ
a ⊗ b = modulo_301 7 (carryless 8 (a % 256) (b % 256))

-- An element to the power e is the product of e factors equal to it.
unfoldable pub raise : ℕ → ℕ → ℕ
raise x zero = 1
raise x (suc e) = x ⊗ raise x e

-- This is 2 to the power e. The element 2 generates all elements but 0.
abbrev pub power : ℕ → ℕ
power e = raise 2 e
