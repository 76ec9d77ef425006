use Rattle.dm_layout.proofs.Names.{◌≡◌, ℕ, ◌+◌, ◌-◌, ◌∙◌, List, length, ap, arith, length-set, look_in}
use Rattle.dm_layout.proofs.symbols.MovedRows.{move_more}
use Rattle.dm_layout.proofs.symbols.laying.move_columns.Goals as goal

pub loop-row-preserved : goal.loop-row-preserved
loop-row-preserved g c =
    let row : ℕ = c.loop-row.row in
    let i = c.loop-row.invariant in
    let rows = g.R.BitRows.numbers c.loop-row.rows in
    record {
      count = ap length c.move_left_end.ensures ∙ length-set rows (row + 4 - c.args.shift) _ ∙ i.count;
      low = omega (arith, i.low);
      so_far = λ r q.
          ap (λ (xs : List ℕ). look_in xs r q) c.move_left_end.ensures
          ∙ move_more g.R.BitRows.width (g.R.BitRows.numbers c.args.rows.now) rows c.args.columns c.args.shift row
          c.requires.least (omega (arith, c.requires.wide, g.met.R.BitRows.fits.1)) (omega (arith, c.requires.shift))
          i.low
          (omega (arith, i.count, c.loop-row-test.true, c.requires.high, c.requires.shift)) i.so_far r
          q;
    }

pub returns-clause-cells : goal.returns-clause-cells
returns-clause-cells g c = λ r q.
    let e : c.loop-row.row ≡ c.args.height + 2 = omega (arith, c.loop-row-test.false, c.loop-row.auto.row-end) in
    rw (c.loop-row.invariant.so_far, e)
