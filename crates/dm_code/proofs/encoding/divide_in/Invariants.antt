use Rattle.std.proofs.Common.{◌≡◌, ◌+◌, ◌*◌, ◌<◌, ◌≤◌, ℕ, length, get_or, take}
use Rattle.gf301.specs.Field.{◌⊗◌, power, raise}
use Rattle.gf301.specs.Polynomial.{value}
use Rattle.dm_code.proofs.encoding.divide_in.Given as goal

-- The register has taken in the first numbers.
abbrev pub invariant-loop-pair : goal.invariant-loop-pair
invariant-loop-pair g l = record {
  long : length l.left ≡ 96;
  bytes : (i : ℕ) → get_or l.left i 0 < 256;
  past : (i : ℕ) → l.k ≤ i → get_or l.left i 0 ≡ 0;
  same : (i : ℕ) → i < l.k →
      value (take (l.odd + 2 * l.pair) l.front) (power (1 + i)) ⊗ raise (power (1 + i)) l.k ≡
      value (take l.k l.left) (power (1 + i));
}
