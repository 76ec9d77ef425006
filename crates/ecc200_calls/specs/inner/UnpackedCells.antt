-- Modules of a row that are unpacked together.
use Rattle.std.specs.Prelude.{ℕ, ◌-◌, List, ◌++◌, map, min}
use Rattle.std.specs.List.{range_with_len}
use Rattle.dm_layout.specs.symbols.Symbols.{is_dark_bit}
use Rattle.ecc200_calls.specs.Modules.{module_of}

-- These are the first modules of a row that is written as a number.
abbrev pub unpacked_cells : ℕ → ℕ → List ℕ
unpacked_cells count cells = map (λ column. module_of (is_dark_bit cells column)) (range_with_len 0 count)

-- These are the modules of a row of so many columns that is written as two numbers, the first for 128 of them.
abbrev pub unpacked_row : ℕ → ℕ → ℕ → List ℕ
unpacked_row columns cells end = unpacked_cells (min columns 128) cells ++ unpacked_cells (columns - 128) end
