use Rattle.std.proofs.Common.{◌∙◌, ◌∷◌, [], sym, arith}
use Rattle.dm_text.specs.declared.record.Contents.TheVariants as kept
use Rattle.dm_text.proofs.RecordStates.{foreign_more, grown_by, with_characters}
use Rattle.dm_text.proofs.record.OpenRecord.push_character.Goals as goal

pub invariant_of-self : goal.invariant_of-self
invariant_of-self c =
    let s = c.self.invariant in
    with_characters c.self.inside.ended c.self.inside.contents kept.Foreign (c.args.byte ∷ []) s (omega arith)
    (foreign_more s.lines s.rest c.args.byte (sym c.is_foreign.ensures ∙ c.if-is_foreign.true))

pub returns-then-is_foreign : goal.returns-then-is_foreign
returns-then-is_foreign c text known =
    let s = c.self.invariant in
    grown_by text _ c.self.inside.ended c.self.inside.contents kept.Foreign (c.args.byte ∷ []) s known (c.requires, tt)
    (omega arith) c.self.view_is
    (foreign_more s.lines s.rest c.args.byte (sym c.is_foreign.ensures ∙ c.if-is_foreign.true))
