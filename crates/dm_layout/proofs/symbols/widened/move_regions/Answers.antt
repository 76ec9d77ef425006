use Rattle.dm_layout.proofs.Names.{◌≡◌, ℕ, ◌+◌, ◌*◌, ◌<◌, ◌≤◌, ◌^◌, List, length, ap, arith, ◌∙◌, length-set, pow_mono}
use Rattle.dm_layout.proofs.Names.{symbol_line, mapped_cell, SizeEntry, mapping_columns, mapping_rows, whole_row}
use Rattle.dm_layout.proofs.symbols.Sizes.{region_ends}
use Rattle.dm_layout.proofs.symbols.WidenedRows.{line_here, moved_more}
use Rattle.dm_layout.proofs.symbols.widened.move_regions.Goals as goal

pub put-requires-clause-inner : goal.put-requires-clause-inner
put-requires-clause-inner g c =
    let more : 2 ^ mapping_columns c.args.symbol.now.size ≤ 2 ^ g.R.BitRows.most = pow_mono c.requires.wide in
    omega (arith, c.matrix_row-inner.ensures.width, more)

pub loop-row-preserved : goal.loop-row-preserved
loop-row-preserved g c =
    let size : SizeEntry = c.args.symbol.now.size in
    let C : ℕ = mapping_columns size in
    let d : ℕ = c.region_rows-region_rows.result in
    let row : ℕ = c.loop-row.row in
    let rows : List ℕ = g.R.BitRows.numbers c.loop-row.rows in
    let x : ℕ = whole_row c.matrix_row-inner.result.0 c.matrix_row-inner.result.1 in
    let i = c.loop-row.invariant in
    let es = c.size-size.ensures.value in
    let ed : d ≡ size.region_rows = rw (c.region_rows-region_rows.ensures.value, es) in
    let all : (c.args.region + 1) * d ≡ c.args.region * d + d = omega arith in
    let line : row + 2 * c.args.region + 1 ≡ symbol_line d row =
    line_here row c.args.region d ((c.args.region + 1) * d) (omega arith) i.begun
    (omega (arith, all, c.loop-row-test.true)) in
    let ends = region_ends size c.args.region c.requires.region in
    let same : (c.args.region + 1) * d ≡ (c.args.region + 1) * size.region_rows =
    ap (λ (k : ℕ). (c.args.region + 1) * k) ed in
    let below : row < mapping_rows size = omega (arith, ends, same, all, c.loop-row-test.true) in
    let cells = rw (line, ed) at c.matrix_row-inner.ensures.cells in
    record {
      count = ap length c.put.ensures ∙ length-set rows (row + 2) _ ∙ i.count;
      begun = omega (arith, i.begun);
      moved =
          moved_more C row x (mapped_cell c.args.symbol.now) rows (g.R.BitRows.numbers c.put.new.self)
          (omega (arith, i.count, below, c.requires.high)) c.matrix_row-inner.ensures.width cells c.put.ensures
          i.moved;
    }
