use Rattle.std.proofs.Common.{◌∙◌, sym}
use Rattle.dm_text.proofs.KeptRows.{lengthened}
use Rattle.dm_text.proofs.rows.Rows.push.Goals as goal
use Rattle.dm_text.proofs.rows.Rows.push.Goals.{then-ended, else-ended}

pub lengthen_line-requires-clause-lines : goal.lengthen_line-requires-clause-lines
lengthen_line-requires-clause-lines c = elim c.if-ended.branch [
  | then-ended w ↦ let t = sym w.if-ended.true ∙ sym w.value-is ∙ c.if-is_empty.false in cc
  | else-ended w ↦ lengthened c.args.self.now c.args.ended c.requires.lines w.if-ended.false
      (λ none. let t = w.is_empty.ensures.1 none in let n = sym w.value-is ∙ c.if-is_empty.false in cc)
]
