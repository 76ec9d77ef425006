use Rattle.dm_layout.specs.symbols.inner.Reading.{whole_row}
use Rattle.dm_layout.proofs.symbols.BorderMasks.{dark_in_even, dark_in_first}
use Rattle.dm_layout.proofs.symbols.borders.Borders.dark.Goals as goal

pub returns-then-inner-eq0-clause-cells : goal.returns-then-inner-eq0-clause-cells
returns-then-inner-eq0-clause-cells c =
    let i = c.self.inside in
    rw (← c.self.view_is) (dark_in_first i.size i.last (whole_row i.left.0 i.left.1) (whole_row i.both.0 i.both.1)
    (whole_row i.even.0 i.even.1) (whole_row i.all.0 i.all.1) c.self.invariant c.args.inner
    c.if-inner-self.false c.if-inner-eq0.true)

pub returns-else-inner-eq1-clause-cells : goal.returns-else-inner-eq1-clause-cells
returns-else-inner-eq1-clause-cells c =
    let i = c.self.inside in
    rw (← c.self.view_is) (dark_in_even i.size i.last (whole_row i.left.0 i.left.1) (whole_row i.both.0 i.both.1)
    (whole_row i.even.0 i.even.1) (whole_row i.all.0 i.all.1) c.self.invariant c.args.inner
    c.if-inner-self.false c.if-inner-eq0.false c.if-inner-eq1.false)
