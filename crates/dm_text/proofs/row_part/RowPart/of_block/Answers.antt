use Rattle.std.proofs.Common.{◌≡◌, ◌≤◌, ◌∙◌, ℕ, List, ap, arith, subst}
use Rattle.std.specs.List.{prefix_len}
use Rattle.dm_text.specs.inner.OpenRecords.{AreCells, padded_block}
use Rattle.dm_text.specs.declared.row_part.RowPart.{RowPart}
use Rattle.std.proofs.Common.{take}
use Rattle.dm_text.proofs.RowParts.{first_of_text, is_near, near_short}
use Rattle.dm_text.proofs.row_part.RowPart.of_block.Goals as goal

-- A count of the near characters of the block at the start of a text is at most what it is.
near_of : (text block : List ℕ) (n : ℕ) → block ≡ padded_block text → n ≡ prefix_len is_near block →
    n ≤ prefix_len is_near (padded_block text)
near_of text block n is count =
    let e : n ≡ prefix_len is_near (padded_block text) = count ∙ ap (prefix_len is_near) is in omega (arith, e)

pub returns-clause-cells : goal.returns-clause-cells
returns-clause-cells c =
    let text : List ℕ = c.args.text.now in
    let n : ℕ = c.cell_count-count.result in
    let f : RowPart = c.first_cells.result in
    let near = near_of text c.first_bytes-block.result n c.first_bytes-block.ensures c.cell_count-count.ensures in
    first_of_text text n f near c.first_cells.ensures.count
    (subst (λ (k : List ℕ). AreCells (take n k) f) c.first_bytes-block.ensures c.first_cells.ensures.cells)

pub returns-clause-few : goal.returns-clause-few
returns-clause-few c =
    let n : ℕ = c.cell_count-count.result in
    let near =
    near_of c.args.text.now c.first_bytes-block.result n c.first_bytes-block.ensures c.cell_count-count.ensures in
    omega (arith, near_short c.args.text.now n near, c.first_cells.ensures.count)
