use Rattle.std.proofs.Common.{get_or, arith}
use Rattle.std.proofs.lemmas.Fmt.{length-decimal-le}
use Rattle.std.proofs.lemmas.Grind.{common_steps}
use Rattle.dm_text.proofs.AnswerTexts.{spaced_first, spaced_more}
use Rattle.dm_text.proofs.printed.push_spaced.Goals.{then-i-gt0, else-i-gt0}
use Rattle.dm_text.proofs.printed.push_spaced.Goals as goal

pub push_decimal-requires : goal.push_decimal-requires
push_decimal-requires g c = elim c.if-i-gt0.branch [
  | then-i-gt0 w ↦ grind (arith, common_steps)
  | else-i-gt0 w ↦ grind (arith, common_steps)
]

pub loop-i-preserved : goal.loop-i-preserved
loop-i-preserved g c = elim c.if-i-gt0.branch [
  | then-i-gt0 w ↦ grind (
    arith,
    common_steps,
    spaced_more c.args.numbers.now c.loop-i.i,
    length-decimal-le 5 (get_or c.args.numbers.now c.loop-i.i 0),
  )
  | else-i-gt0 w ↦ grind (
    arith,
    common_steps,
    spaced_first c.args.numbers.now,
    length-decimal-le 5 (get_or c.args.numbers.now 0 0),
  )
]
