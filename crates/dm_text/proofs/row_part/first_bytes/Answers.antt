use Rattle.std.proofs.Common.{◌∙◌}
use Rattle.dm_text.proofs.RowParts.{block_is}
use Rattle.dm_text.proofs.row_part.first_bytes.Goals as goal
use Rattle.dm_text.proofs.row_part.first_bytes.Goals.{then-text-ge-BLOCK, else-text-ge-BLOCK}

pub returns : goal.returns
returns c = elim c.if-text-ge-BLOCK.branch [
  | then-text-ge-BLOCK w ↦ w.result-is ∙ block_is c.args.text.now w.if-text-ge-BLOCK.true
  | else-text-ge-BLOCK w ↦ w.result-is ∙ w.last_bytes.ensures
]
