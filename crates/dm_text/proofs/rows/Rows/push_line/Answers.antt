use Rattle.dm_text.proofs.RowParts.{cells_some}
use Rattle.dm_text.proofs.rows.Rows.push_line.Goals as goal

pub returns-clause-held : goal.returns-clause-held
returns-clause-held c lines characters h cells =
    let begun = rw c.if-not-begin_line.false at (c.begin_line.ensures.lines lines characters h cells) in
    c.end_line.ensures lines characters begun (cells_some characters c.args.line cells)
