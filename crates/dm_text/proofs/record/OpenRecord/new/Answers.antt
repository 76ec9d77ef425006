use Rattle.std.proofs.Common.{[], refl, subst, sym, false}
use Rattle.dm_text.specs.RecordFacts.{RecordFacts, AreRecordFacts}
use Rattle.dm_text.specs.declared.record.Contents.TheVariants as kept
use Rattle.dm_text.proofs.RecordStates.{value_is}
use Rattle.dm_text.proofs.OpenRecordTexts.{none_open}
use Rattle.dm_text.proofs.record.OpenRecord.new.Goals as goal

pub returns : goal.returns
returns c =
    subst (λ (f : RecordFacts). AreRecordFacts [] f)
    (sym (value_is false (kept.Cells c.new.result)
    (record { lines = []; rest = []; ended_is = refl; contents_are = c.new.ensures }))) none_open
