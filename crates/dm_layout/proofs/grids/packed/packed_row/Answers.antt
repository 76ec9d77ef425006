use Rattle.std.proofs.Common.{◌+◌, ℕ, sym, subst, arith}
use Rattle.dm_layout.proofs.PackedRows.{IsPacked, packed_dark, packed_light}
use Rattle.dm_layout.proofs.grids.packed.packed_row.Goals.{then-dark, else-dark}
use Rattle.dm_layout.proofs.grids.packed.packed_row.Goals as goal

pub loop-column-preserved : goal.loop-column-preserved
loop-column-preserved c =
    let cells = c.args.cells.now in
    let n : ℕ = c.loop-column.column in
    let k = c.loop-column.invariant in
    elim c.if-dark.branch [
      | then-dark w ↦ subst (IsPacked cells (n + 1)) (sym w.row-is)
          (packed_dark cells n c.loop-column.row (omega (arith, c.requires, c.loop-column-test.true)) k w.if-dark.true)
      | else-dark w ↦ rw (← w.row-is) at (packed_light cells n c.loop-column.row k w.if-dark.false)
    ]
