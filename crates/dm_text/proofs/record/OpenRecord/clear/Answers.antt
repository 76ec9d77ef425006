use Rattle.std.proofs.Common.{[], refl, subst, sym, false}
use Rattle.dm_text.specs.RecordFacts.{RecordFacts, AreRecordFacts}
use Rattle.dm_text.specs.declared.record.Contents.TheVariants as kept
use Rattle.dm_text.proofs.RecordStates.{value_is}
use Rattle.dm_text.proofs.OpenRecordTexts.{none_open}
use Rattle.dm_text.proofs.record.OpenRecord.clear.Goals as goal

pub returns-in-Cells : goal.returns-in-Cells
returns-in-Cells c =
    subst (λ (f : RecordFacts). AreRecordFacts [] f)
    (sym (value_is false (kept.Cells c.clear.new.self)
    (record { lines = []; rest = []; ended_is = refl; contents_are = c.clear.ensures }))) none_open

pub returns-in_default : goal.returns-in_default
returns-in_default c =
    subst (λ (f : RecordFacts). AreRecordFacts [] f)
    (sym (value_is false (kept.Cells c.new.result)
    (record { lines = []; rest = []; ended_is = refl; contents_are = c.new.ensures }))) none_open
