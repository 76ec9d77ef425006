use Rattle.std.proofs.Common.{get_or, arith}
use Rattle.dm_layout.proofs.symbols.MovedRows.{moved_left, moved_right, over_row}
use Rattle.dm_layout.proofs.symbols.narrow_rows.NarrowRowsBitRows.lower.Goals as goal

pub returns-then-shift-le4-clause-cells : goal.returns-then-shift-le4-clause-cells
returns-then-shift-le4-clause-cells c =
    (over_row c.args.self.now 64 c.args.row c.args.from c.args.shift _ (omega (arith, c.requires.row))
    (λ q l. moved_right 64 (get_or c.args.self.now c.args.from 0) c.args.shift q (omega (arith, c.if-shift-le4.true))
    l)).cells

pub returns-else-shift-le4-clause-cells : goal.returns-else-shift-le4-clause-cells
returns-else-shift-le4-clause-cells c =
    (over_row c.args.self.now 64 c.args.row c.args.from c.args.shift _ (omega (arith, c.requires.row))
    (λ q l. moved_left (get_or c.args.self.now c.args.from 0) c.args.shift q (omega
    (arith, c.if-shift-le4.false)))).cells
