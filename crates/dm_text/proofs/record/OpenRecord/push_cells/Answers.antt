use Rattle.std.proofs.Common.{◌<◌, ℕ, subst}
use Rattle.dm_text.specs.declared.record.Contents.TheVariants as kept
use Rattle.dm_text.proofs.RowParts.{cells_no_lf}
use Rattle.dm_text.proofs.RecordStates.{grown_by, large_by, marks_stay, with_characters}
use Rattle.dm_text.proofs.record.OpenRecord.push_cells.Goals as goal

pub invariant_of-self : goal.invariant_of-self
invariant_of-self c =
    let s = c.self.invariant in
    let cells = c.requires.1 in
    let held = rw c.in-Cells.is at s.contents_are in
    let large = rw c.if-not-push.true at (c.push.ensures s.lines s.rest c.requires.0 held s.ended_is cells) in
    with_characters c.self.inside.ended c.self.inside.contents kept.Large c.requires.0 s
    (subst (λ (n : ℕ). 0 < n) cells.count_is cells.some)
    (large_by c.in-Cells.rows s.lines s.rest c.requires.0 held cells.cells large)

pub invariant_of-self-else-not-push : goal.invariant_of-self-else-not-push
invariant_of-self-else-not-push c =
    let s = c.self.invariant in
    let cells = c.requires.1 in
    let held = rw c.in-Cells.is at s.contents_are in
    let more = rw c.if-not-push.false at (c.push.ensures s.lines s.rest c.requires.0 held s.ended_is cells) in
    with_characters c.self.inside.ended c.self.inside.contents (kept.Cells c.push.new.self) c.requires.0 s
    (subst (λ (n : ℕ). 0 < n) cells.count_is cells.some) more

pub invariant_of-self-in_default : goal.invariant_of-self-in_default
invariant_of-self-in_default c =
    let s = c.self.invariant in
    let cells = c.requires.1 in
    with_characters c.self.inside.ended c.self.inside.contents c.self.inside.contents c.requires.0 s
    (subst (λ (n : ℕ). 0 < n) cells.count_is cells.some)
    (marks_stay c.self.inside.contents s.lines s.rest c.requires.0 cells.cells c.in_default.not-Cells s.contents_are)

pub returns-then-not-push : goal.returns-then-not-push
returns-then-not-push c text characters known cells =
    let s = c.self.invariant in
    let held = rw c.in-Cells.is at s.contents_are in
    let large = rw c.if-not-push.true at (c.push.ensures s.lines s.rest characters held s.ended_is cells) in
    grown_by text _ c.self.inside.ended c.self.inside.contents kept.Large characters s known
    (cells_no_lf characters cells.cells)
    (subst (λ (n : ℕ). 0 < n) cells.count_is cells.some) c.self.view_is
    (large_by c.in-Cells.rows s.lines s.rest characters held cells.cells large)

pub returns-else-not-push : goal.returns-else-not-push
returns-else-not-push c text characters known cells =
    let s = c.self.invariant in
    let held = rw c.in-Cells.is at s.contents_are in
    let more = rw c.if-not-push.false at (c.push.ensures s.lines s.rest characters held s.ended_is cells) in
    grown_by text _ c.self.inside.ended c.self.inside.contents (kept.Cells c.push.new.self) characters s known
    (cells_no_lf characters cells.cells)
    (subst (λ (n : ℕ). 0 < n) cells.count_is cells.some) c.self.view_is more

pub returns-in_default : goal.returns-in_default
returns-in_default c text characters known cells =
    let s = c.self.invariant in
    grown_by text _ c.self.inside.ended c.self.inside.contents c.self.inside.contents characters s known
    (cells_no_lf characters cells.cells)
    (subst (λ (n : ℕ). 0 < n) cells.count_is cells.some) c.self.view_is
    (marks_stay c.self.inside.contents s.lines s.rest characters cells.cells c.in_default.not-Cells s.contents_are)
