use Rattle.dm_layout.proofs.Names.{ap, sym, arith, SymbolView}
use Rattle.dm_layout.proofs.symbols.KeptRows.{module_of_end}
use Rattle.dm_layout.proofs.symbols.symbol.SymbolIn.end.Goals as goal

pub returns : goal.returns
returns g c =
    rw (← c.self.view_is) (λ column l.
    let h = ap (λ (m : SymbolView). m.size.rows) c.self.view_is in
    sym (module_of_end c.self.inside.size c.self.inside.rows c.self.inside.ends c.args.row column
    (omega (arith, c.requires, h)) l))
