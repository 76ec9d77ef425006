use Rattle.std.proofs.Common.{◌∙◌, sym}
use Rattle.dm_text.proofs.RecordGrids.{is_grid, no_grid, not_square}
use Rattle.dm_text.proofs.rows.Rows.grid_to.Goals as goal
use Rattle.dm_text.proofs.rows.Rows.grid_to.Goals.{then-self-via-then-self, then-self-via-else-self+then-self-side}
use Rattle.dm_text.proofs.rows.Rows.grid_to.Goals.{then-self-via-else-self+else-self-side+then-from-len}

pub returns-then-self : goal.returns-then-self
returns-then-self c lines rest h = not_square c.args.self.now lines rest h (λ d l f. elim c.then-self.branch [
  | then-self-via-then-self w ↦ let e = w.if-self.true in cc
  | then-self-via-else-self+then-self-side w ↦ w.if-self-side.true l
  | then-self-via-else-self+else-self-side+then-from-len w ↦ w.if-from-len.true (w.from.ensures ∙ f
      ∙ sym w.len.ensures.value)
])

pub returns-in-Ok : goal.returns-in-Ok
returns-in-Ok c lines rest h =
    is_grid c.args.self.now lines rest c.as_slice.result.now c.set_rows.new.self h c.if-self.false c.if-self-side.false
    (sym c.from.ensures ∙ c.if-from-len.false ∙ c.len.ensures.value) c.as_slice.ensures.value c.in-Ok.ensures.size
    c.in-Ok.ensures.cells

pub returns-in-Err : goal.returns-in-Err
returns-in-Err c lines rest h =
    no_grid c.args.self.now lines rest c.as_slice.result.now c.in-Err.field-0 h c.if-self.false c.if-self-side.false
    (sym c.from.ensures ∙ c.if-from-len.false ∙ c.len.ensures.value) c.as_slice.ensures.value
    (λ e. c.in-Err.ensures.not_square.0 e) (λ e. (c.in-Err.ensures.no_such_size.0 e).1)
