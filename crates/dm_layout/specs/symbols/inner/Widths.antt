-- How wide rows of numbers are.
use Rattle.std.specs.Prelude.{ℕ}

-- A row has no more columns than this.
abbrev pub most_wide : ℕ
most_wide = 128

-- No mapping matrix of a symbol of so few columns has more rows or columns than this. That of 132 x 132, which has more
-- columns than rows of 128 bits have, does not exceed it either.
abbrev pub wide_matrix : ℕ
wide_matrix = 120

-- No mapping matrix has more rows or columns than this.
abbrev pub largest_matrix : ℕ
largest_matrix = 132
