use Rattle.dm_text.proofs.RowParts.{join_cells}
use Rattle.dm_text.proofs.row_part.RowPart.join.Goals as goal

pub returns : goal.returns
returns c characters more these next = join_cells characters more c.args.self c.args.next these next c.requires.room
