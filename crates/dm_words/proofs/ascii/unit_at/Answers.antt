use Rattle.dm_words.proofs.Names.{◌∙◌, sym, arith}
use Rattle.dm_words.proofs.UnitLoops.{pair_begins}
use Rattle.dm_words.proofs.ascii.unit_at.Goals as goal

pub returns : goal.returns
returns c =
    pair_begins _ _ _ _ _ (omega arith) c.in-Byte.is c.in-Byte-items.is (sym c.is_digit.ensures ∙ c.if-is_digit.true)
    (sym c.is_digit-2.ensures ∙ c.if-is_digit-2.true) c.digit_pair.ensures
