use Rattle.dm_layout.proofs.Names.{ap, sym, arith, SymbolView}
use Rattle.dm_layout.proofs.symbols.KeptRows.{module_of_first}
use Rattle.dm_layout.proofs.symbols.borrowed.BorrowedSymbol.row.Goals as goal

pub returns : goal.returns
returns c =
    rw (← c.self.view_is) (λ column low l.
    let h = ap (λ (m : SymbolView). m.size.rows) c.self.view_is in
    sym (module_of_first c.self.inside.size c.self.inside.rows.now c.self.inside.ends.now c.args.row column
    (omega (arith, c.requires, h)) low l))
