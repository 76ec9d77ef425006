use Rattle.dm_words.proofs.Names.{ap, sym, subst, arith, length, List, ℕ, as_content, IsItem, padded}
use Rattle.dm_words.proofs.Names.{recursion_from_All, Says, Usual, length-take}
use Rattle.dm_words.specs.inner.Ways.{AreWritten}
use Rattle.dm_words.proofs.AsciiWords.{ascii_padded, ascii_spells}
use Rattle.dm_words.proofs.SmallestSymbols.{plainest}
use Rattle.dm_words.proofs.PlainForms.{ascii_plain, message_is_content}
use Rattle.dm_words.proofs.smallest.write_plainest.Goals as goal

pub returns-then-from-words-clause-written : goal.returns-then-from-words-clause-written
returns-then-from-words-clause-written c =
    let m = c.args.items.now in
    let count = length c.args.words.now in
    let fit = recursion_from_All IsItem m c.requires.message in
    let form = ascii_plain (as_content m) count (message_is_content m c.requires.message)
    (omega (arith, c.requires.ascii)) in
    subst (λ (w : List ℕ). AreWritten c.args.extent (padded w count) (as_content m))
    (sym c.write_ascii.ensures.words)
    (record { says = ascii_padded c.args.extent m count fit; wide = form.wide; form = form.form })

pub returns-then-from-words-clause-plainest : goal.returns-then-from-words-clause-plainest
returns-then-from-words-clause-plainest c =
    let m = c.args.items.now in
    let count = length c.args.words.now in
    let is = c.write_ascii.ensures.words in
    plainest (as_content m) _ count (omega (arith, ap length is, c.requires.ascii)) (λ room. is)
    (λ other same says. subst (λ (w : List ℕ). Says Usual (padded w count) (as_content m)) (sym is)
    (ascii_spells Usual m count (recursion_from_All IsItem m c.requires.message)))

pub returns-else-not-is_usual-clause-plainest : goal.returns-else-not-is_usual-clause-plainest
returns-else-not-is_usual-clause-plainest c =
    plainest (as_content c.args.items.now) _ (length c.args.words.now) (omega (arith, length-take {A = ℕ}))
    (λ room. absurd (omega (arith, room, c.requires.ascii)))
    (λ other same says. (c.write_way-is_usual.ensures.usual c.if-not-is_usual.false).says)
