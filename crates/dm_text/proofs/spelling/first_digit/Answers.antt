use Rattle.std.proofs.Common.{refl}
use Rattle.dm_text.proofs.SpellingBytes.{digit_can, digit_none, first_digit_none}
use Rattle.dm_text.proofs.spelling.first_digit.Goals as goal

pub returns-in-Some : goal.returns-in-Some
returns-in-Some c = (refl, digit_can c.args.byte c.in-Some.field-0 c.in-Some.ensures.some, digit_none c.args.byte)

pub returns-in-None : goal.returns-in-None
returns-in-None c more = first_digit_none c.args.byte more c.in-None.ensures.none
