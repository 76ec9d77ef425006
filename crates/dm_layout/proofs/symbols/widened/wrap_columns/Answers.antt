use Rattle.dm_layout.proofs.Names.{◌≡◌, ◌∙◌, ℕ, ◌+◌, List, length, ap, arith, length-set, look_in}
use Rattle.dm_layout.proofs.symbols.WidenedRows.{wrap_more}
use Rattle.dm_layout.proofs.symbols.widened.wrap_columns.Goals as goal

pub loop-row-preserved : goal.loop-row-preserved
loop-row-preserved g c =
    let olds = g.R.BitRows.numbers c.args.rows.now in
    let rows = g.R.BitRows.numbers c.loop-row.rows in
    record {
      count = ap length c.wrap_left.ensures ∙ length-set rows (c.loop-row.row + 2) _ ∙ c.loop-row.invariant.count;
      so_far = λ r q.
          ap (λ (xs : List ℕ). look_in xs r q) c.wrap_left.ensures
          ∙ wrap_more olds rows c.args.height c.args.columns c.args.shift c.loop-row.row c.source-from.result
          (omega (arith, c.requires.least))
          (omega (arith, c.loop-row.invariant.count, c.loop-row-test.true, c.requires.high)) c.source-from.ensures
          c.requires.width
          c.loop-row.invariant.so_far r q;
    }

pub returns-clause-wrapped : goal.returns-clause-wrapped
returns-clause-wrapped g c = λ r q.
    let olds = g.R.BitRows.numbers c.args.rows.now in
    let e : c.loop-row.row ≡ c.args.height = omega (arith, c.loop-row-test.false, c.loop-row.auto.row-end) in
    rw (c.loop-row.invariant.so_far, e)
