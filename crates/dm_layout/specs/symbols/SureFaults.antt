-- Border faults of which there is no doubt, where some modules of a symbol may be doubtful. These are given as modules
-- of their own, of the symbol's size, dark where a module of the symbol is doubtful; or as `None` where no module is.
use Rattle.std.specs.Prelude.{ℕ, Bool, false, not, ◌&&◌, sum_by, count_by, Option, Some, None}
use Rattle.std.specs.List.{range_with_len}
use Rattle.dm_layout.specs.symbols.Symbols.{SymbolView, module_at}
use Rattle.dm_layout.specs.symbols.Border.{is_fault}

-- A module is doubtful if such modules are given, and the one of them at this row and column is dark.
abbrev pub is_doubtful : Option SymbolView → ℕ → ℕ → Bool
is_doubtful None row column = false
is_doubtful (Some doubtful) row column = module_at doubtful row column

-- A border fault is sure if the module isn't doubtful: a border module has the wrong colour, and there is no doubt of
-- its colour.
abbrev pub is_sure_fault : SymbolView → Option SymbolView → ℕ → ℕ → Bool
is_sure_fault modules doubtful row column = is_fault modules row column && not (is_doubtful doubtful row column)

-- The sure border faults of a symbol are counted over all its modules.
abbrev pub sure_fault_count : SymbolView → Option SymbolView → ℕ
sure_fault_count modules doubtful =
    sum_by (λ row. count_by (is_sure_fault modules doubtful row) (range_with_len 0 modules.size.columns))
    (range_with_len 0 modules.size.rows)
