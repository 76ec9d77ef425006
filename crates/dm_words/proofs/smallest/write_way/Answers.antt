use Rattle.dm_words.proofs.Names.{◌≡◌, ◌∙◌, ℕ, List, ◌∷◌, [], ◌++◌, length, take, ap, arith, subst, Setting}
use Rattle.dm_words.proofs.Names.{ArePartsWritten}
use Rattle.dm_words.proofs.Names.{length-take, nat_tests}
use Rattle.dm_words.proofs.PlainForms.{macro_form}
use Rattle.dm_words.proofs.MarkedCosts.{inner_few, inner_items}
use Rattle.dm_words.proofs.smallest.write_way.Goals as goal

pub write_parts-usual-requires : goal.write_parts-usual-requires
write_parts-usual-requires c = grind (arith, nat_tests, inner_items, inner_few)

pub returns-in-Some-clause-written : goal.returns-in-Some-clause-written
returns-in-Some-clause-written c =
    let way = rw c.in-Some.is at c.requires.way in
    let base = take c.add.new.held c.add.new.list in
    let new = take c.write_parts-usual.new.held c.write_parts-usual.new.words in
    let total = length c.args.words.now in
    let same : length c.add.new.list ≡ total = omega arith in
    let none = ap (λ (n : ℕ). take n c.args.words.now) c.requires.none in
    macro_form _ total _ base new _ _ c.requires.message
    (c.add.ensures.added ∙ ap (λ (l : List ℕ). l ++ c.in-Some.word ∷ []) none) c.inner.ensures way.0
    (rw same at (subst
    (λ (s : Setting). ArePartsWritten s.extent (length c.add.new.list) base new c.inner.result.now) c.at_end.ensures
    c.write_parts-usual.ensures.parts)) (omega (arith, c.write_parts-usual.ensures.fits, length-take {A = ℕ}))
