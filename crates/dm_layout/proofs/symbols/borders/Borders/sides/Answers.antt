use Rattle.dm_layout.specs.symbols.inner.Reading.{whole_row}
use Rattle.dm_layout.proofs.symbols.BorderMasks.{sides_are, sides_dark}
use Rattle.dm_layout.proofs.symbols.borders.Borders.sides.Goals as goal

pub returns-clause-cells : goal.returns-clause-cells
returns-clause-cells c =
    let i = c.self.inside in
    rw (← c.self.view_is) (sides_are i.size i.last (whole_row i.left.0 i.left.1) (whole_row i.both.0 i.both.1)
    (whole_row i.even.0 i.even.1) (whole_row i.all.0 i.all.1) c.self.invariant)

pub returns-clause-dark : goal.returns-clause-dark
returns-clause-dark c =
    let i = c.self.inside in
    rw (← c.self.view_is) (sides_dark i.size i.last (whole_row i.left.0 i.left.1) (whole_row i.both.0 i.both.1)
    (whole_row i.even.0 i.even.1) (whole_row i.all.0 i.all.1) c.self.invariant)
