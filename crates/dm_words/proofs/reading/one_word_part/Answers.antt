use Rattle.dm_words.proofs.Names.{sym, ap, take, is_one_word}
use Rattle.dm_words.proofs.ContentLoops.{character_taken, digits_taken}
use Rattle.dm_words.proofs.reading.one_word_part.Goals as goal

pub returns-in-Character-clause-one : goal.returns-in-Character-clause-one
returns-in-Character-clause-one c =
    let is = rw c.in-Character.is at c.lone_of.ensures in
    sym (ap is_one_word is)

pub returns-in-Character-clause-taken : goal.returns-in-Character-clause-taken
returns-in-Character-clause-taken c = λ extent place more.
    let is = rw c.in-Character.is at c.lone_of.ensures in
    character_taken extent place c.args.word c.in-Character.byte more (take c.args.held.now c.args.items.now)
    (take c.add.new.held c.add.new.list) is c.add.ensures.added

pub returns-in-Digits-clause-one : goal.returns-in-Digits-clause-one
returns-in-Digits-clause-one c =
    let is = rw c.in-Digits.is at c.lone_of.ensures in
    sym (ap is_one_word is)

pub returns-in-Digits-clause-taken : goal.returns-in-Digits-clause-taken
returns-in-Digits-clause-taken c = λ extent place more.
    let is = rw c.in-Digits.is at c.lone_of.ensures in
    digits_taken extent place c.args.word c.in-Digits.number more (take c.args.held.now c.args.items.now) _ is
    c.add_digits.ensures.added

pub returns-in-Other-clause-one : goal.returns-in-Other-clause-one
returns-in-Other-clause-one c =
    let is = rw c.in-Other.is at c.lone_of.ensures in
    sym is
