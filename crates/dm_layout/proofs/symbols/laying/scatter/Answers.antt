use Rattle.dm_layout.proofs.Names.{◌≡◌, ℕ, ◌∙◌, ap, arith, scattered}
use Rattle.dm_layout.proofs.symbols.LaidRows.{scatter_more}
use Rattle.dm_layout.proofs.symbols.laying.scatter.Goals as goal

pub loop-row-preserved : goal.loop-row-preserved
loop-row-preserved g c =
    let slots = g.R.BitRows.joined c.args.slots.now in
    let row : ℕ = c.loop-row.row in
    record {
      count = c.scatter.ensures.room ∙ c.loop-row.invariant.count;
      so_far = λ r q l.
          rw (c.scatter.ensures.cells, c.first_column.ensures, c.loop-row.invariant.so_far, scatter_more);
    }

pub returns-clause-cells : goal.returns-clause-cells
returns-clause-cells g c = λ r q l.
    let e : c.loop-row.row ≡ c.args.height = omega (arith, c.loop-row-test.false, c.loop-row.auto.row-end) in
    c.loop-row.invariant.so_far r q l ∙ ap (λ (i : ℕ). scattered i (g.R.BitRows.joined c.args.slots.now) r q) e
