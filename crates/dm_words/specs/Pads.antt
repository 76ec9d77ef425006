-- Pads (ISO/IEC 16022, pad character and its 253-state randomising).
use Rattle.std.specs.Prelude.{ℕ, zero, suc, ◌+◌, ◌-◌, ◌*◌, ◌%◌, List, [], ◌∷◌, ◌++◌, length, nat_le, if◌then◌else◌}
use Rattle.dm_words.specs.Codewords.{first_pad}

-- A pad that is not the first of the symbol is this codeword at its place, which is counted from 1.
abbrev pub pad_at : ℕ → ℕ
pad_at place = let number = first_pad + ((149 * place) % 253 + 1) in if nat_le number 254 then number else number - 254

-- This many pads stand from a place on, none of them the first of the symbol.
abbrev pub further_pads : ℕ → ℕ → List ℕ
further_pads place zero = []
further_pads place (suc count) = pad_at place ∷ further_pads (place + 1) count

-- This many pads stand from a place on, the first of which is the first of the symbol.
abbrev pub pads : ℕ → ℕ → List ℕ
pads place zero = []
pads place (suc count) = first_pad ∷ further_pads (place + 1) count

-- The codewords, at most `count` of them, are followed by pads up to `count` codewords.
abbrev pub padded : List ℕ → ℕ → List ℕ
padded words count = words ++ pads (length words + 1) (count - length words)
