use Rattle.std.proofs.Common.{◌∙◌, ◌<◌, ap, sym, subst, ℕ, ◌∷◌, ◌++◌, [], refl, arith}
use Rattle.std.proofs.lemmas.Bool.{eqb-true, eqb-false}
use Rattle.dm_symbol.specs.Sizes.{largest_side}
use Rattle.dm_text.specs.inner.OpenRecords.{line_count}
use Rattle.dm_text.proofs.KeptRows.{begin_done, begin_full, begin_long}
use Rattle.dm_text.proofs.rows.Rows.begin_line.Goals as goal
use Rattle.dm_text.proofs.rows.Rows.begin_line.Goals.{then-is_empty, else-is_empty, then-is_full-via-then-is_full}
use Rattle.dm_text.proofs.rows.Rows.begin_line.Goals.{then-is_full-via-else-is_full+then-from-gt-LARGEST_SIDE}

pub returns-then-is_full-clause-lines : goal.returns-then-is_full-clause-lines
returns-then-is_full-clause-lines c lines characters h cells = elim c.then-is_full.branch [
  | then-is_full-via-then-is_full w ↦
      begin_full c.args.self.now lines characters h
      (eqb-true (line_count c.args.self.now) largest_side (sym c.is_full.ensures.value ∙ w.if-is_full.true))
      (subst (λ (n : ℕ). 0 < n) cells.count_is cells.some)
  | then-is_full-via-else-is_full+then-from-gt-LARGEST_SIDE w ↦
      begin_long c.args.self.now lines characters h
      (omega (arith, w.from.ensures, w.if-from-gt-LARGEST_SIDE.true, cells.count_is))
]

pub returns-clause-lines : goal.returns-clause-lines
returns-clause-lines c lines characters h cells =
    begin_done c.args.self.now _ lines characters h cells.cells (subst (λ (n : ℕ). 0 < n) cells.count_is cells.some)
    (omega (arith, c.from.ensures, c.if-from-gt-LARGEST_SIDE.false, cells.count_is))
    (eqb-false (line_count c.args.self.now) largest_side (sym c.is_full.ensures.value ∙ c.if-is_full.false))
    (c.push.ensures.items ∙ ap (λ n. c.args.self.now.rows.items ++ n ∷ []) cells.bits_are)
    (λ zero. elim c.if-is_empty.branch [
      | then-is_empty w ↦ w.first-is ∙ cells.count_is
      | else-is_empty w ↦ let t =
          c.is_empty.ensures.1 zero in let n = w.if-is_empty.false in cc
    ])
    (λ some. elim c.if-is_empty.branch [
      | then-is_empty w ↦ absurd (some (c.is_empty.ensures.0 w.if-is_empty.true))
      | else-is_empty w ↦ w.first-is
    ]) cells.count_is refl
