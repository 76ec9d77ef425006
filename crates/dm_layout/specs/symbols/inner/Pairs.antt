-- Numbers of 256 bits as two of 128.
use Rattle.std.specs.Prelude.{ℕ, ◌+◌, ◌*◌, ◌^◌, List, map}
use Rattle.dm_layout.specs.declared.symbols.pair.Pair.{Pair}

-- The number of its lowest 128 bits and of those behind them.
abbrev pub pair : ℕ → ℕ → ℕ
pair low high = high * 2 ^ 128 + low

-- The number that a pair is.
abbrev pub number_of : Pair → ℕ
number_of p = pair p.low p.high

-- The numbers that pairs are.
abbrev pub numbers_of : List Pair → List ℕ
numbers_of ps = map number_of ps
