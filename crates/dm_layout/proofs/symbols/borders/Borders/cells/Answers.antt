use Rattle.dm_layout.proofs.Names.{inl, inr, sym, ◌∙◌, eqb-true, whole_row}
use Rattle.dm_layout.proofs.symbols.BorderMasks.{cells_all}
use Rattle.dm_layout.proofs.symbols.borders.Borders.cells.Goals as goal
use Rattle.dm_layout.proofs.symbols.borders.Borders.cells.Goals.{then-inner-eq0, else-inner-eq0}

pub returns-then-inner-self-clause-cells : goal.returns-then-inner-self-clause-cells
returns-then-inner-self-clause-cells c =
    let i = c.self.inside in
    rw (← c.self.view_is)
    (elim c.if-inner-eq0.branch [
      | then-inner-eq0 w ↦ cells_all i.size i.last (whole_row i.left.0 i.left.1) (whole_row i.both.0 i.both.1)
          (whole_row i.even.0 i.even.1) (whole_row i.all.0 i.all.1) c.self.invariant c.args.inner
          (inl w.if-inner-eq0.true)
      | else-inner-eq0 w ↦ cells_all i.size i.last (whole_row i.left.0 i.left.1) (whole_row i.both.0 i.both.1)
          (whole_row i.even.0 i.even.1) (whole_row i.all.0 i.all.1) c.self.invariant c.args.inner
          (inr (eqb-true _ _ (sym w.value-is ∙ c.if-inner-self.true)))
    ])
