use Rattle.std.proofs.Common.{◌∙◌, ◌∷◌, ◌++◌, [], ap, subst, sym}
use Rattle.dm_text.specs.RecordFacts.{RecordFacts, AreRecordFacts}
use Rattle.dm_text.specs.declared.record.Contents.{Contents}
use Rattle.dm_text.proofs.OpenRecordTexts.{grown_blank}
use Rattle.dm_text.proofs.RecordStates.{cells_end_by, marks_end_at, marks_end_by, none_counted, value}
use Rattle.dm_text.proofs.record.OpenRecord.end_line.Goals as goal

pub returns-then-is_empty : goal.returns-then-is_empty
returns-then-is_empty c text known =
    let grown = grown_blank text c.args.self.now known
    (none_counted c.self.inside.contents c.in-Cells.cells c.args.self.now c.self.inside.ended c.in-Cells.is
    c.self.view_is (c.is_empty.ensures.0 c.if-is_empty.true)) in
    subst (λ (k : Contents). AreRecordFacts (text ++ 10 ∷ []) (value c.self.inside.ended k)) c.in-Cells.is
    (subst (λ (f : RecordFacts). AreRecordFacts (text ++ 10 ∷ []) f) (sym c.self.view_is) grown)

pub invariant_of-self-in_default : goal.invariant_of-self-in_default
invariant_of-self-in_default c =
    marks_end_at c.self.inside.ended c.self.inside.contents c.self.invariant
    (ap (λ (f : RecordFacts). f.ended) c.self.view_is ∙ c.requires) c.in_default.not-Cells

pub returns-else-is_empty : goal.returns-else-is_empty
returns-else-is_empty c text known =
    cells_end_by text c.args.self.now c.self.inside.ended c.self.inside.contents c.in-Cells.cells c.end_line.new.self
    c.self.invariant
    (ap (λ (f : RecordFacts). f.ended) c.self.view_is ∙ c.requires) c.in-Cells.is
    (λ z. let t = c.is_empty.ensures.1 z in let n = c.if-is_empty.false in cc) c.self.view_is known c.end_line.ensures

pub returns-in_default : goal.returns-in_default
returns-in_default c text known =
    marks_end_by text c.args.self.now c.self.inside.ended c.self.inside.contents c.self.invariant
    (ap (λ (f : RecordFacts). f.ended) c.self.view_is ∙ c.requires) c.in_default.not-Cells c.self.view_is known
