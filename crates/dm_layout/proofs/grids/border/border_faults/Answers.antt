use Rattle.dm_layout.proofs.Names.{sym, ◌∙◌, ap, symbol_modules}
use Rattle.dm_layout.specs.symbols.Border as symbols
use Rattle.dm_layout.proofs.KeptSymbols.{all_sure, same_symbol}
use Rattle.dm_layout.proofs.grids.border.border_faults.Goals as goal

pub returns : goal.returns
returns c =
    let same = ap symbol_modules (sym c.grid.view_is) ∙ same_symbol c.grid.inside.symbol c.grid.invariant in
    (rw c.borrowed.ensures at c.border_faults.ensures) ∙ all_sure c.grid.inside.symbol
    ∙ ap symbols.border_fault_count (sym same)
