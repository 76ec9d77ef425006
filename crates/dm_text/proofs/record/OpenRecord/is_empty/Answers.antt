use Rattle.std.proofs.Common.{◌∙◌, ap, sym, length}
use Rattle.dm_text.proofs.RecordStates.{counted_lines, no_line_left}
use Rattle.dm_text.proofs.record.OpenRecord.is_empty.Goals as goal

pub returns-in-Cells : goal.returns-in-Cells
returns-in-Cells c lines rest e =
    let count =
    counted_lines c.self.inside.contents c.in-Cells.cells c.args.self.now c.self.inside.ended lines rest
    c.in-Cells.is c.self.view_is e in (
      λ t. no_line_left _ (sym count ∙ c.is_empty.ensures.0 t),
      λ none. c.is_empty.ensures.1 (count ∙ ap length none),
    )
