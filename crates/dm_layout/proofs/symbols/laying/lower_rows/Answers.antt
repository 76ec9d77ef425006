use Rattle.std.proofs.Common.{ℕ, ◌+◌, ◌%◌}
use Rattle.dm_layout.proofs.symbols.MovedRows.{lowered_rows, over_shift}
use Rattle.dm_layout.proofs.symbols.laying.lower_rows.Goals as goal

pub returns-clause-cells : goal.returns-clause-cells
returns-clause-cells g c = λ r q l.
    let n : ℕ = c.args.height in
    let rows = g.R.BitRows.numbers in
    let width : ℕ = g.R.BitRows.width in
    let e = c.wrap_shift-shift.ensures in
    lowered_rows width (rows c.args.rows.now) (rows c.lower.new.self) (rows c.lower-2.new.self) n r q c.requires.some l
    (over_shift (rows c.args.rows.now) (rows c.lower.new.self) width n 0 c.wrap_shift-shift.result ((n + 4) % 8) e
    c.lower.ensures.others c.lower.ensures.cells)
    (over_shift (rows c.lower.new.self) (rows c.lower-2.new.self) width (n + 1) 1 c.wrap_shift-shift.result
    ((n + 4) % 8) e c.lower-2.ensures.others c.lower-2.ensures.cells)
