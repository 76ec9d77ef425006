use Rattle.std.proofs.Common.{◌/◌, arith}
use Rattle.std.proofs.lemmas.Fmt.{decimal_digit, decimal_step, length-decimal-le}
use Rattle.std.proofs.lemmas.Grind.{common_steps}
use Rattle.dm_text.proofs.printed.+push_decimal.Goals.{then-number-ge10, else-number-ge10}
use Rattle.dm_text.proofs.printed.+push_decimal.Goals as goal

pub push-requires : goal.push-requires
push-requires g t c = elim c.if-number-ge10.branch [
  | then-number-ge10 w ↦ grind (arith, common_steps, length-decimal-le 19 (c.args.number / 10))
  | else-number-ge10 w ↦ grind (arith, common_steps)
]

pub returns-clause-text : goal.returns-clause-text
returns-clause-text g t c = elim c.if-number-ge10.branch [
  | then-number-ge10 w ↦ grind (arith, common_steps, decimal_step c.args.number)
  | else-number-ge10 w ↦ grind (arith, common_steps, decimal_digit c.args.number)
]

pub returns-clause-length : goal.returns-clause-length
returns-clause-length g t c = elim c.if-number-ge10.branch [
  | then-number-ge10 w ↦ grind (arith, common_steps, length-decimal-le 19 (c.args.number / 10))
  | else-number-ge10 w ↦ grind (arith, common_steps)
]
