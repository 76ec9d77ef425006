use Rattle.dm_layout.proofs.Names.{◌≡◌, ℕ, ◌+◌, ◌∙◌, List, length, ap, arith, subst, length-set, look_in}
use Rattle.dm_layout.proofs.symbols.WidenedRows.{laid_over}
use Rattle.dm_layout.proofs.symbols.MovedRows.{raise_more}
use Rattle.dm_layout.proofs.symbols.laying.raise_rows.Goals as goal

pub loop-row-preserved : goal.loop-row-preserved
loop-row-preserved g c =
    let olds = g.R.BitRows.numbers c.args.rows.now in
    let rows = g.R.BitRows.numbers c.loop-row.rows in
    let row : ℕ = c.loop-row.row in
    let i = c.loop-row.invariant in
    record {
      count = ap length c.raise.ensures ∙ length-set rows (row + 2) _ ∙ i.count;
      so_far = λ r q.
          ap (λ (xs : List ℕ). look_in xs r q) c.raise.ensures
          ∙ raise_more olds rows c.args.height row c.requires.some (omega (arith, c.loop-row-test.true))
          (omega (arith, i.count, c.loop-row-test.true, c.requires.some, c.requires.high)) i.so_far r q;
    }

pub returns-clause-cells : goal.returns-clause-cells
returns-clause-cells g c =
    let olds = g.R.BitRows.numbers c.args.rows.now in
    let last : c.loop-row.row ≡ 4 = omega (arith, c.loop-row-test.false) in
    subst (λ (n : ℕ). (r q : ℕ) → look_in (g.R.BitRows.numbers c.loop-row.rows) r q ≡
    laid_over olds (λ i. look_in olds (i + c.args.height)) (n + 2) r q) last c.loop-row.invariant.so_far
