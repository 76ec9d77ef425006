use Rattle.dm_layout.proofs.Names.{ap, arith, SymbolView}
use Rattle.dm_layout.proofs.symbols.KeptRows.{modules_of_kept, put_end, put_first, put_others}
use Rattle.dm_layout.proofs.symbols.symbol.SymbolIn.put_row.Goals as goal

pub returns-clause-start : goal.returns-clause-start
returns-clause-start g c =
    rw (← c.self.view_is) (let h = ap (λ (m : SymbolView). m.size.rows) c.self.view_is in
    put_first c.self.inside.size c.self.inside.rows c.self.inside.ends c.args.row c.args.cells c.args.end
    (omega (arith, c.requires, h)) (omega (arith, c.self.invariant.fits, c.requires, h, c.self.invariant.height)))

pub returns-clause-end : goal.returns-clause-end
returns-clause-end g c =
    rw (← c.self.view_is) (let h = ap (λ (m : SymbolView). m.size.rows) c.self.view_is in
    put_end c.self.inside.size c.self.inside.rows c.self.inside.ends c.args.row c.args.cells c.args.end
    (omega (arith, c.requires, h)) (omega (arith, c.self.invariant.fits, c.requires, h, c.self.invariant.end_height)))

pub returns-clause-others : goal.returns-clause-others
returns-clause-others g c =
    rw (← c.self.view_is)
    (put_others c.self.inside.size c.self.inside.rows c.self.inside.ends c.args.row c.args.cells c.args.end)

pub returns-clause-modules : goal.returns-clause-modules
returns-clause-modules g c = modules_of_kept c.self.inside.size _ _ c.self.invariant.entry
