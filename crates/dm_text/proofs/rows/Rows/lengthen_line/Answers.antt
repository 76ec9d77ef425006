use Rattle.std.proofs.Common.{◌+◌, ◌≤◌, ℕ, length, sym, ◌∙◌, ◌∷◌, ap, refl, arith}
use Rattle.dm_symbol.specs.Sizes.{largest_side}
use Rattle.dm_text.proofs.RecordSteps.{last_new}
use Rattle.dm_text.proofs.KeptRows.{lengthen_done, lengthen_full, shifted, with_bits, with_line, written}
use Rattle.dm_text.proofs.rows.Rows.lengthen_line.Goals as goal
use Rattle.dm_text.proofs.rows.Rows.lengthen_line.Goals.{then-count-eq1, else-count-eq1}

pub overflow_add-last : goal.overflow_add-last
overflow_add-last c =
    let held = c.requires.lines in
    let known = with_line c.args.self.now held.0 held.1 held.2 held.3 in
    let last = held.3.last_is ∙ last_new held.0 (held.1 ∷ held.2) in
    omega (arith, known.1, last, c.requires.cells.1.few)

pub returns-then-from-gt-LARGEST_SIDE : goal.returns-then-from-gt-LARGEST_SIDE
returns-then-from-gt-LARGEST_SIDE c lines x rest characters h cells =
    lengthen_full c.args.self.now lines x rest characters h
    (omega (arith, c.from.ensures, c.if-from-gt-LARGEST_SIDE.true, cells.count_is))

pub returns : goal.returns
returns c lines x rest characters h cells =
    let t = c.args.self.now in
    let room : t.last + length characters ≤ largest_side =
    omega (arith, c.from.ensures, c.if-from-gt-LARGEST_SIDE.false, cells.count_is) in
    let longer = ap (λ (n : ℕ). t.last + n) cells.count_is in
    lengthen_done t _ lines x rest characters h cells.cells room
    (written t c.len-count.result _ c.as_mut_slice.result.now c.as_mut_slice.ensures.value c.len-count.ensures.value
    ∙ ap (with_bits t) (shifted t lines x rest characters c.args.cells.bits h room cells.bits_are))
    (λ one. elim c.if-count-eq1.branch [
      | then-count-eq1 w ↦ w.first-is
          ∙ longer
      | else-count-eq1 w ↦ absurd (w.if-count-eq1.false (c.len-count.ensures.value ∙ one))
    ])
    (λ more. elim c.if-count-eq1.branch [
      | then-count-eq1 w ↦ absurd
          (more (sym c.len-count.ensures.value ∙ w.if-count-eq1.true))
      | else-count-eq1 w ↦ w.first-is
    ]) longer refl
