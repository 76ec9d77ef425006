use Rattle.dm_layout.specs.symbols.inner.Reading.{whole_row}
use Rattle.dm_layout.proofs.symbols.BorderMasks.{left_sides_dark}
use Rattle.dm_layout.proofs.symbols.borders.Borders.left_sides.Goals as goal

pub returns : goal.returns
returns c =
    let i = c.self.inside in
    rw (← c.self.view_is) (left_sides_dark i.size i.last (whole_row i.left.0 i.left.1) (whole_row i.both.0 i.both.1)
    (whole_row i.even.0 i.even.1) (whole_row i.all.0 i.all.1) c.self.invariant)
