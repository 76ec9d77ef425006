use Rattle.std.proofs.Common.{◌≡◌, ◌≢◌, refl, arith}
use Rattle.dm_text.specs.Spellings.{plain}
use Rattle.dm_text.proofs.SpellingBytes.{backslash_can, backslash_none}
use Rattle.dm_text.proofs.spelling.first.Goals as goal

pub returns-in-92 : goal.returns-in-92
returns-in-92 c = let e : c.args.byte ≡ 92 = omega arith in rw e (refl, backslash_can, backslash_none)

pub returns-in-32-to-126 : goal.returns-in-32-to-126
returns-in-32-to-126 c = let n : c.args.byte ≢ 92 =
    omega arith in plain c.args.byte (omega arith) (omega arith) n refl refl
