use Rattle.ecc200_calls.proofs.Names.{◌≡◌, ℕ, suc, ◌+◌, ◌∙◌, List, drop, ap, arith, subst, sym, length-set}
use Rattle.ecc200_calls.proofs.Names.{At, CellsInside, bits_from, mapping_rows, mapping_columns, with_bits}
use Rattle.std.proofs.Math.Seq.{drop-cons}
use Rattle.dm_place.specs.declared.shape.Cell.{Cell}
use Rattle.ecc200_calls.proofs.place_table.put_word.Goals as goal

pub loop-cell-preserved : goal.loop-cell-preserved
loop-cell-preserved c =
    let i : ℕ = c.loop-cell.cell-index in
    let cells : List Cell = c.args.cells.now in
    let e = drop-cons cells i (At 0 0) (omega (arith, c.loop-cell-test.true, c.told-cells)) in
    let next : suc i ≡ i + 1 = omega arith in
    let rest = ap (λ (j : ℕ). drop j cells) next in
    let bits = ap (λ (b : ℕ). bits_from c.args.word b (drop (suc i) cells)) (sym next) in
    let so_far = rw e at c.loop-cell.invariant.so_far in
    record {
      inside =
          subst (CellsInside (mapping_rows c.args.size) (mapping_columns c.args.size)) rest
          (rw e at c.loop-cell.invariant.inside).2;
      counted = omega (arith, c.loop-cell.invariant.counted);
      room = length-set c.loop-cell.places _ _ ∙ c.loop-cell.invariant.room;
      so_far =
          rw (
            c.from-row.ensures,
            c.symbol_row.ensures.value,
            c.from-columns.ensures,
            c.columns.ensures.value,
            c.from-column.ensures,
            c.symbol_column.ensures.value,
            c.loop-cell.invariant.counted,
            ← rest,
            bits,
          ) so_far;
    }
