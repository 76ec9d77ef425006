use Rattle.std.proofs.Common.{◌∙◌, ◌<◌, ℕ, List, ap, arith, get_or, length, subst, sym, take}
use Rattle.std.specs.Simd.Lanes.{chunk}
use Rattle.dm_text.specs.declared.row_part.RowPart.{RowPart}
use Rattle.dm_text.specs.inner.OpenRecords.{AreCells}
use Rattle.dm_text.proofs.RowParts.{line_of_text}
use Rattle.dm_text.proofs.row_part.RowPart.of_line.Goals as goal

pub returns-clause-line : goal.returns-clause-line
returns-clause-line c =
    let text : List ℕ = c.args.text.now in
    let n : ℕ = c.args.count in
    let f : RowPart = c.first_cells.result in
    let long : 32 < length text = omega (arith, c.if-text-le-BLOCK.false) in
    line_of_text text n f long c.requires.few (c.first_cells.ensures.count ∙ c.from-3.ensures)
    (ap (λ (k : ℕ). get_or text k 0) (sym c.from.ensures) ∙ c.if-text-from-ne-LF.false)
    (subst (λ (k : ℕ). AreCells (take k (chunk 0 32 text)) f) c.from-3.ensures c.first_cells.ensures.cells)
