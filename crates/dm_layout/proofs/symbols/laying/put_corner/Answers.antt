use Rattle.dm_layout.proofs.Names.{◌≡◌, ◌%◌, arith}
use Rattle.dm_layout.proofs.symbols.laying.put_corner.Goals as goal

pub returns-then-columns-eq0-clause-cells : goal.returns-then-columns-eq0-clause-cells
returns-then-columns-eq0-clause-cells g c = λ r q.
    let height : c.args.height % 8 ≡ 6 = omega arith in
    let columns : c.args.columns % 8 ≡ 0 = omega arith in
    rw (height, columns)
    (rw c.cells-then-columns-eq0.ensures.value at (c.put_cells-then-columns-eq0.ensures.cells r q))
