-- The check codewords of 144 x 144, turned ten by ten.
use Rattle.std.specs.Prelude.{ℕ, ◌+◌, ◌*◌, ◌/◌, ◌%◌, List, ◌++◌, take, get_or, map}
use Rattle.std.specs.List.{range_with_len}

-- The place of the codeword that check codeword i becomes, where those of each ten are turned by so many places.
abbrev pub turned_place : ℕ → ℕ → ℕ
turned_place shift i = 1558 + (i / 10 * 10 + (i + shift) % 10)

-- The codewords, with the check codewords turned so.
abbrev pub turned : ℕ → List ℕ → List ℕ
turned shift words = take 1558 words ++ map (λ i. get_or words (turned_place shift i) 0) (range_with_len 0 620)
