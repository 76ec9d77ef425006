use Rattle.std.proofs.Common.{◌≡◌, ◌≢◌, ◌≤◌, ◌<◌, Bool, ◌++◌, List, ℕ, arith, length, subst, sym, take}
use Rattle.std.proofs.lemmas.List.{length-take-le}
use Rattle.dm_text.specs.declared.record.Contents.{Contents}
use Rattle.dm_text.specs.declared.record.Contents.TheVariants as kept
use Rattle.dm_text.specs.inner.OpenRecords.{AreContents, IsRecordState}
use Rattle.dm_text.proofs.RecordStates.{all_foreign, grown_by, with_characters}
use Rattle.dm_text.proofs.record.OpenRecord.take_characters.Goals as goal

-- Foreign contents stay foreign with more characters.
stays : (e : Bool) (c : Contents) (more : List ℕ) (s : IsRecordState e c) → c ≡ kept.Foreign →
    AreContents c s.lines (s.rest ++ more)
stays e c more s is =
    subst (λ (k : Contents). AreContents k s.lines (s.rest ++ more)) (sym is)
    (all_foreign s.lines s.rest more (subst (λ (k : Contents). AreContents k s.lines s.rest) is s.contents_are))

-- Some bytes are taken.
taken : (bytes : List ℕ) (n : ℕ) → n ≢ 0 → n ≤ length bytes → 0 < length (take n bytes)
taken bytes n some within = omega (arith, length-take-le n bytes within, some)

pub invariant_of-self : goal.invariant_of-self
invariant_of-self c =
    let s = c.self.invariant in
    let more : List ℕ = take c.characters_of_line-count.result c.args.bytes.now in
    with_characters c.self.inside.ended c.self.inside.contents c.self.inside.contents more s
    (taken c.args.bytes.now c.characters_of_line-count.result c.if-count-eq0.false
    c.characters_of_line-count.ensures.within)
    (stays c.self.inside.ended c.self.inside.contents more s c.in-Foreign.is)

pub returns-in-Foreign-clause-grown : goal.returns-in-Foreign-clause-grown
returns-in-Foreign-clause-grown c text known =
    let s = c.self.invariant in
    let more : List ℕ = take c.characters_of_line-count.result c.args.bytes.now in
    grown_by text _ c.self.inside.ended c.self.inside.contents c.self.inside.contents more s known
    c.characters_of_line-count.ensures.no_lf
    (taken c.args.bytes.now c.characters_of_line-count.result c.if-count-eq0.false
    c.characters_of_line-count.ensures.within) c.self.view_is
    (stays c.self.inside.ended c.self.inside.contents more s c.in-Foreign.is)
