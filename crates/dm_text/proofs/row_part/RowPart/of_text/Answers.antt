use Rattle.std.proofs.Common.{◌*◌, arith}
use Rattle.dm_text.proofs.RowParts.{prefix_longer}
use Rattle.dm_text.proofs.row_part.RowPart.of_text.Goals as goal

pub loop-block-preserved : goal.loop-block-preserved
loop-block-preserved c =
    let longer =
    prefix_longer c.args.text.now (c.loop-block.block * 32) c.loop-block.cells c.in-Some-of_block.next
    c.join-cells.result c.loop-block.invariant.cells
    (omega (arith, c.from.ensures, c.if-from-block.false, c.loop-block.invariant.few)) c.in-Some-of_block.ensures.cells
    c.join-cells.ensures in
    record {
      cells = longer.0;
      few =
          omega (arith, longer.1, c.loop-block.invariant.few, c.in-Some-of_block.ensures.few);
    }
