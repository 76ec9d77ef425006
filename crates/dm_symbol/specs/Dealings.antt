-- The two dealings of the codewords of a symbol into its blocks. By the standard's, codeword j of the symbol is one of
-- block j mod B, data and check codewords alike (ISO/IEC 16022, error correction). In 144 x 144, where the B = 10
-- blocks don't divide the 1,558 data codewords, the first check codeword so falls to block 8, and some encoders deal
-- otherwise: check codeword i, from 0, to block i mod B. In each other size both dealings are the same.
use Rattle.std.specs.Prelude.{◌≡◌, ℕ, ◌+◌, ◌-◌, ◌*◌, ◌/◌, ◌%◌, cond, nat_lt, List, get_or, map, Option}
use Rattle.std.specs.List.{range_with_len}
use Rattle.dm_code.specs.Erased.{erased_places_from}
use Rattle.dm_layout.specs.symbols.Sizes.{SizeEntry, codeword_count}
use Rattle.dm_layout.specs.symbols.Symbols.{SymbolView}
use Rattle.dm_layout.specs.symbols.Blocks.{places_of_block}
use Rattle.dm_symbol.specs.declared.symbol.dealing.Dealing.{Dealing}
use Rattle.dm_symbol.specs.declared.symbol.dealing.Dealing.TheVariants.{Standard, Restarted}
use Rattle.dm_symbol.specs.Doubt.{is_erased}

-- This is the size in which both are found.
abbrev pub IsDealtTwoWays : SizeEntry → Type 0
IsDealtTwoWays size = (size.rows ≡ 144) × (size.columns ≡ 144)

-- Where the standard's dealing has check codeword j of the symbol, which is number (j - data) div B of the check
-- codewords of block j mod B, the other dealing has this one: that of the same number and of the same block. Data
-- codewords have their places by both.
abbrev pub restarted_place : SizeEntry → ℕ → ℕ
restarted_place size j =
    cond (nat_lt j size.data_count) j
    (size.data_count + ((j - size.data_count) / size.blocks * size.blocks + j % size.blocks))

-- The codewords of a symbol, in the order in which the standard's dealing gives each block what this dealing gives it.
abbrev pub dealt : Dealing → SizeEntry → List ℕ → List ℕ
dealt Standard size words = words
dealt Restarted size words =
    map (λ j. get_or words (restarted_place size j) 0) (range_with_len 0 (codeword_count size))

-- The erased places of block b of a symbol of this size, by this dealing, are those of its places, counted from 0 in
-- the block, whose codewords are erased.
abbrev pub erased_by : Dealing → SizeEntry → Option SymbolView → ℕ → List ℕ
erased_by Standard size doubtful b =
    erased_places_from 0 (map (is_erased size doubtful) (places_of_block size.blocks b (codeword_count size)))
erased_by Restarted size doubtful b =
    erased_places_from 0 (map (λ j. is_erased size doubtful (restarted_place size j))
    (places_of_block size.blocks b (codeword_count size)))
