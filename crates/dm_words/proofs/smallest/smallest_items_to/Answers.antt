use Rattle.dm_words.proofs.Names.{refl}
use Rattle.dm_words.proofs.Names.{◌≡◌, ◌∙◌, ◌≤◌, ℕ, ap, take, take_at, length, length-take, arith, as_content, padded}
use borrow.Rule.Slice.PartMut.{post_of}
use Rattle.dm_words.proofs.ContentBounds.{no_fewer_words}
use Rattle.dm_words.proofs.SmallestSymbols.{none_written, written_smallest}
use Rattle.dm_words.proofs.smallest.smallest_items_to.Goals as goal

pub returns-in-None-clause-smallest : goal.returns-in-None-clause-smallest
returns-in-None-clause-smallest c =
    none_written c.args.extent _ (as_content c.args.items.now) _ _ _
    (λ w. no_fewer_words c.args.extent w c.args.items.now _ (omega (arith, c.requires.few))
    c.least_way-found.ensures.least) c.in-None.ensures.none

pub returns-in-Some-clause-smallest : goal.returns-in-Some-clause-smallest
returns-in-Some-clause-smallest c =
    let size = c.in-Some.ensures in
    let old = take c.from.result c.args.words.now in
    let words = c.write_plainest-held.new.words in
    let new = take c.write_plainest-held.result words in
    let long : length old ≡ c.in-Some.size.data_count =
    omega (arith, c.from.ensures, c.data_count.ensures.value, c.data_count.ensures.most, length-take {A = ℕ}) in
    let same : length words ≡ length old = omega arith in
    let put = take_at c.add_pads.new.words (post_of 0 c.from.result c.args.words.now) c.in-Some.size.data_count
    (omega (arith, long, same)) ∙ c.add_pads.ensures ∙ ap (λ (n : ℕ). padded new n) same in
    let fits : length new ≤ length old = omega (arith, c.write_plainest-held.ensures.fits, length-take {A = ℕ}) in
    written_smallest c.args.extent _ (as_content c.args.items.now) _ (length old) c.in-Some.size new _
    (λ w. no_fewer_words c.args.extent w c.args.items.now _ (omega (arith, c.requires.few))
    c.least_way-found.ensures.least)
    (record { taken = (size.size, size.chosen); smallest = size.smallest; narrowest = size.narrowest })
    long put fits c.write_plainest-held.ensures.written c.write_plainest-held.ensures.plainest

pub returns-in-None-clause-same : goal.returns-in-None-clause-same
returns-in-None-clause-same c = refl
