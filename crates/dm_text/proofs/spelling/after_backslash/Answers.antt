use Rattle.std.proofs.Common.{◌≡◌, refl, arith}
use Rattle.dm_text.proofs.SpellingBytes.{hexadecimal_can, hexadecimal_none}
use Rattle.dm_text.proofs.spelling.after_backslash.Goals as goal

pub returns-in-120 : goal.returns-in-120
returns-in-120 c = let e : c.args.byte ≡ 120 = omega arith in rw e (refl, hexadecimal_can, hexadecimal_none)
