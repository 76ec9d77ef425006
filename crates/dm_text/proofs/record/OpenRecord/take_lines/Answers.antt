use Rattle.std.proofs.Common.{take, inl, inr}
use Rattle.dm_text.proofs.RecordStates.{lines_by, lines_kept}
use Rattle.dm_text.proofs.record.OpenRecord.take_lines.Goals as goal
use Rattle.dm_text.proofs.record.OpenRecord.take_lines.Goals.{then-self-via-then-self}
use Rattle.dm_text.proofs.record.OpenRecord.take_lines.Goals.{then-self-via-else-self+then-is_empty}

pub invariant_of-self-then-self : goal.invariant_of-self-then-self
invariant_of-self-then-self c =
    lines_kept (take c.take_lines-taken.result c.args.bytes.now) c.self.inside.ended c.is_empty-then-self.result
    c.self.inside.contents c.in-Cells.rows c.take_lines-taken.new.self
    c.self.invariant c.in-Cells.is
    (elim c.then-self.branch [
      | then-self-via-then-self w ↦ inl w.if-self.true
      | then-self-via-else-self+then-is_empty w
          ↦ inr (w.is_empty.ensures.0 w.if-is_empty.true)
    ])
    c.take_lines-taken.ensures.ended c.is_empty-then-self.ensures

pub returns-then-self-clause-grown : goal.returns-then-self-clause-grown
returns-then-self-clause-grown c text known =
    lines_by text (take c.take_lines-taken.result c.args.bytes.now) c.args.self.now c.self.inside.ended
    c.is_empty-then-self.result c.self.inside.contents c.in-Cells.rows
    c.take_lines-taken.new.self c.self.invariant c.in-Cells.is
    (elim c.then-self.branch [
      | then-self-via-then-self w ↦ inl w.if-self.true
      | then-self-via-else-self+then-is_empty w
          ↦ inr (w.is_empty.ensures.0 w.if-is_empty.true)
    ])
    c.take_lines-taken.ensures.ended c.is_empty-then-self.ensures c.self.view_is known
