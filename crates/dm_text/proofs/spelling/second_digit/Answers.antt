use Rattle.std.proofs.Common.{refl, ◌∷◌}
use Rattle.dm_text.specs.Spellings.{byte}
use Rattle.dm_text.proofs.SpellingBytes.{first_digit_none, second_digit_none}
use Rattle.dm_text.proofs.spelling.second_digit.Goals as goal

pub returns-in_default : goal.returns-in_default
returns-in_default c more = first_digit_none c.args.first (c.args.byte ∷ more) c.in_default.ensures.none

pub returns-in_default-hex_value : goal.returns-in_default-hex_value
returns-in_default-hex_value c more =
    second_digit_none c.args.first c.args.byte more c.in_default-hex_value.ensures.none

pub returns : goal.returns
returns c =
    byte c.args.first c.args.byte c.in-Some.high c.in-Some-hex_value.low c.in-Some.ensures.some
    c.in-Some-hex_value.ensures.some refl refl
