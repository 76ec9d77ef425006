use Rattle.dm_layout.proofs.Names.{◌≡◌, ℕ, suc, ◌+◌, ◌<◌, ◌||◌, List, drop, get_or, length, ap, ◌∙◌, subst, refl, arith}
use Rattle.dm_layout.proofs.Names.{length-set, Cell, At, look_in, marks_in, CellsInside}
use Rattle.std.proofs.Math.Seq.{drop-cons}
use Rattle.dm_layout.proofs.symbols.Painting.{cell_put}
use Rattle.dm_layout.proofs.symbols.laying.put_cells.Goals as goal

-- A cell from which on all cells lie in the square lies in it.
cell_inside : (most i : ℕ) (cells : List Cell) → i < length cells → CellsInside most most (drop i cells) →
    ((get_or cells i (At 0 0)).row < most) × ((get_or cells i (At 0 0)).column < most)
cell_inside most i cells l h =
    let inside = subst (CellsInside most most) (drop-cons cells i (At 0 0) l) h in
    (inside.0, inside.1)

pub loop-i-preserved : goal.loop-i-preserved
loop-i-preserved g c =
    let cells : List Cell = c.args.cells.now in
    let i : ℕ = c.loop-i.i in
    let x : Cell = get_or cells i (At 0 0) in
    let e = drop-cons cells i (At 0 0) (omega (arith, c.loop-i-test.true, c.told-cells)) in
    let s : suc i ≡ i + 1 = omega arith in
    let f = ap (λ (j : ℕ). drop j cells) s in
    let inside = rw e at c.loop-i.invariant.inside in
    let rows = g.R.BitRows.numbers c.loop-i.rows in
    let olds = g.R.BitRows.numbers c.args.rows.now in
    record {
      count = ap length c.put_bit.ensures ∙ length-set rows (x.row + 2) _ ∙ c.loop-i.invariant.count;
      inside = subst (λ (cs : List Cell). CellsInside g.R.BitRows.most g.R.BitRows.most cs) f inside.2;
      so_far = λ r q.
          ap (λ (xs : List ℕ). look_in xs (r + 2) (q + 4) || marks_in c.args.word (i + 1) (drop (i + 1) cells) r q)
          c.put_bit.ensures
          ∙ cell_put g.R.BitRows.width rows olds c.args.word i _ cells x (drop (suc i) cells) e f
          (omega (arith, inside.0, c.loop-i.invariant.count)) (omega (arith, inside.1, g.met.R.BitRows.fits))
          (omega (arith, c.loop-i-test.true)) refl c.loop-i.invariant.so_far r q;
    }
