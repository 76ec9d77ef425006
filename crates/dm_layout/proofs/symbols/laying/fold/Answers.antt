use Rattle.std.proofs.Common.{arith}
use Rattle.dm_layout.proofs.symbols.MovedRows.{is_folded}
use Rattle.dm_layout.proofs.symbols.laying.fold.Goals as goal

pub returns-clause-cells : goal.returns-clause-cells
returns-clause-cells g c = λ r q lr lq.
    let rows = g.R.BitRows.numbers in
    is_folded g.R.BitRows.width c.args.height c.args.columns (rows c.args.rows.now) (rows c.lower_rows.new.rows)
    (rows c.move_columns.new.rows) (rows c.raise_rows.new.rows)
    (omega (arith, c.requires.wide, g.met.R.BitRows.fits.1))
    c.lower_rows.ensures.cells
    (rw c.wrap_shift.ensures at c.move_columns.ensures.cells)
    c.raise_rows.ensures.cells r q lq
