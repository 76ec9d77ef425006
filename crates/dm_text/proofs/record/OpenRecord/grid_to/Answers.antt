use Rattle.std.proofs.Common.{◌∙◌, sym, ap}
use Rattle.dm_text.specs.RecordFacts.{RecordFacts}
use Rattle.dm_text.specs.inner.OpenRecords.{contents_seen}
use Rattle.dm_text.proofs.RecordMeanings.{meaning_is, meaning_of}
use Rattle.dm_text.proofs.KeptRows.{seen_is}
use Rattle.dm_text.proofs.record.OpenRecord.grid_to.Goals as goal

pub returns-in-Foreign : goal.returns-in-Foreign
returns-in-Foreign c lines rest e =
    let seen = ap (λ (f : RecordFacts). f.contents) (c.self.view_is ∙ e) in
    ap meaning_of (sym (ap contents_seen c.in-Foreign.is) ∙ seen) ∙ sym (meaning_is lines rest)

pub returns-in-Large : goal.returns-in-Large
returns-in-Large c lines rest e =
    let seen = ap (λ (f : RecordFacts). f.contents) (c.self.view_is ∙ e) in
    ap meaning_of (sym (ap contents_seen c.in-Large.is) ∙ seen) ∙ sym (meaning_is lines rest)

pub returns-in-Cells : goal.returns-in-Cells
returns-in-Cells c lines rest e =
    let s = c.self.invariant in
    let seen = ap (λ (f : RecordFacts). f.contents) (c.self.view_is ∙ e) in
    let held = rw c.in-Cells.is at s.contents_are in
    c.grid_to.ensures s.lines s.rest held ∙ meaning_is s.lines s.rest
    ∙ ap meaning_of (sym (seen_is c.in-Cells.rows s.lines s.rest held) ∙ sym (ap contents_seen c.in-Cells.is) ∙ seen)
    ∙ sym (meaning_is lines rest)
