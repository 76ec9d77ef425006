use Rattle.dm_words.proofs.Names.{ℕ, take, length, arith, ap, length-take, Usual, subst, Setting, ArePartsWritten}
use Rattle.dm_words.proofs.PartsWritten.{written_say}
use Rattle.dm_words.proofs.PlainForms.{message_form}
use Rattle.dm_words.proofs.smallest.write_plain.Goals as goal

pub returns-clause-usual : goal.returns-clause-usual
returns-clause-usual c all =
    let none = ap (λ (n : ℕ). take n c.args.words.now) c.requires.none in
    written_say Usual (length c.args.words.now) _ (take c.write_parts.new.held c.write_parts.new.words) c.args.items.now
    none (c.write_parts.ensures.usual all) (omega (arith, c.write_parts.ensures.fits, length-take {A = ℕ}))

pub returns-clause-written : goal.returns-clause-written
returns-clause-written c =
    let none = ap (λ (n : ℕ). take n c.args.words.now) c.requires.none in
    let old = take c.args.held.now c.args.words.now in
    let new = take c.write_parts.new.held c.write_parts.new.words in
    message_form _ _ _ new _ c.requires.message none
    (subst (λ (s : Setting). ArePartsWritten s.extent (length c.args.words.now) old new c.args.items.now)
    c.at_end.ensures c.write_parts.ensures.parts) c.write_parts.ensures.sign
    (omega (arith, c.write_parts.ensures.fits, length-take {A = ℕ}))
