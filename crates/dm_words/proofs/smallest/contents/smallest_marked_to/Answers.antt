use Rattle.dm_words.proofs.Names.{◌≡◌, ◌∙◌, ◌≤◌, ℕ, ap, take, take_at, length, length-take, arith, padded, view_of, sym}
use borrow.Rule.Slice.PartMut.{post_of}
use Rattle.dm_words.proofs.ContentBounds.{no_fewer_content}
use Rattle.dm_words.proofs.PlainForms.{form_is}
use Rattle.dm_words.proofs.SmallestSymbols.{none_written, not_usual, plainest, written_smallest}
use Rattle.dm_words.proofs.smallest.contents.smallest_marked_to.Goals as goal

pub returns-in-None-clause-smallest : goal.returns-in-None-clause-smallest
returns-in-None-clause-smallest c =
    let a = c.args in
    none_written _ a.choice (view_of a.head a.items.now a.marks.now) _ _ _
    (λ w. no_fewer_content w _ _ (omega (arith, c.requires.few, c.requires.few_marks)) c.least_way-way.ensures.least)
    c.in-None.ensures.none

pub returns-in-Some-clause-smallest : goal.returns-in-Some-clause-smallest
returns-in-Some-clause-smallest c =
    let a = c.args in
    let l = view_of a.head a.items.now a.marks.now in
    let size = c.in-Some.ensures in
    let old = take c.from.result c.args.words.now in
    let words = c.write_content-held.new.words in
    let new = take c.write_content-held.result words in
    let long : length old ≡ c.in-Some.size.data_count =
    omega (arith, c.from.ensures, c.data_count.ensures.value, c.data_count.ensures.most, length-take {A = ℕ}) in
    let same : length words ≡ length old = omega arith in
    let put = take_at c.add_pads.new.words (post_of 0 c.from.result c.args.words.now) c.in-Some.size.data_count
    (omega (arith, long, same)) ∙ c.add_pads.ensures ∙ ap (λ (n : ℕ). padded new n) same in
    let fits : length new ≤ length old = omega (arith, c.write_content-held.ensures.fits, length-take {A = ℕ}) in
    let written = c.write_content-held.ensures in
    let form = form_is a.head a.items.now a.marks.now in
    written_smallest _ a.choice l _ (length old) c.in-Some.size new _
    (λ w. no_fewer_content w _ _ (omega (arith, c.requires.few, c.requires.few_marks)) c.least_way-way.ensures.least)
    (record { taken = (size.size, size.chosen); smallest = size.smallest; narrowest = size.narrowest })
    long put fits written.written
    (plainest l new _ fits (λ room. written.ascii (rw form at room) ∙ sym form)
    (λ other same says. absurd (not_usual other l c.requires.marked says)))
