use Rattle.std.proofs.Common.{arith}
use Rattle.dm_text.proofs.RowParts.{first_of_block, mask_is, near_few}
use Rattle.dm_text.proofs.row_part.first_cells.Goals as goal

pub overflow_shl-count : goal.overflow_shl-count
overflow_shl-count c = omega (arith, near_few c.args.block c.args.count c.fits-block.0 c.requires.cells)

pub overflow_sub-count : goal.overflow_sub-count
overflow_sub-count c = mask_is c.args.count (near_few c.args.block c.args.count c.fits-block.0 c.requires.cells)

pub overflow_cast-result : goal.overflow_cast-result
overflow_cast-result c =
    record { fits = omega (arith, near_few c.args.block c.args.count c.fits-block.0 c.requires.cells) }

pub returns-clause-cells : goal.returns-clause-cells
returns-clause-cells c =
    first_of_block c.args.block c.args.count c.dark_bits.result c.from.result c.fits-block.0 c.fits-block.1
    c.requires.cells c.requires.some c.dark_bits.ensures c.from.ensures
