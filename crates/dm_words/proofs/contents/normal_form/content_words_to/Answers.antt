use Rattle.dm_words.proofs.Names.{◌∙◌, sym, length, normal_form, arith, nat_tests}
use Rattle.dm_words.proofs.NormalPlain.{content_plain, plain_is_normal, marked_is_ascii}
use Rattle.dm_words.proofs.contents.normal_form.content_words_to.Goals as goal

pub returns-then-is_plain-clause-plain : goal.returns-then-is_plain-clause-plain
returns-then-is_plain-clause-plain c = grind (arith, nat_tests, content_plain, normal_form, plain_is_normal)

pub returns-clause-plain : goal.returns-clause-plain
returns-clause-plain c =
    let a = c.args in
    content_plain a.profile a.head a.items.now a.marks.now c.write_marked.new.words _ (length a.words.now)
    c.write_marked.result c.requires.head c.requires.in_order c.requires.most
    (marked_is_ascii a.profile a.head a.items.now a.marks.now (sym c.is_plain.ensures ∙ c.if-is_plain.false))
    c.write_marked.ensures.form c.write_marked.ensures.too_long
