use Rattle.dm_symbol.proofs.Names.{ℕ, arith, length-take, rules, subst, sym, take, ◌∙◌, ContentView, size_facts}
use Rattle.dm_symbol.proofs.Names.{AreChosen}
use Rattle.dm_symbol.proofs.PlainSymbols.{form_written_is_plain}
use Rattle.dm_symbol.proofs.contents.writing.write_content_to.Goals as goal

pub lay_words_to-requires : goal.lay_words_to-requires
lay_words_to-requires c =
    let facts = size_facts c.in-Ok.size c.in-Ok.ensures.size in (
      search rules,
      (
        search rules,
        (
          omega (arith, c.from.ensures, c.data_count.ensures.value, c.data_count.ensures.most, length-take {A = ℕ}),
          (omega (arith, facts.codewords), omega (arith, facts.rows_fit)),
        ),
      ),
    )

pub returns-in-Ok-clause-written : goal.returns-in-Ok-clause-written
returns-in-Ok-clause-written c =
    let a = c.args in
    let l : ContentView = record { head = a.head; items = a.items.now; marks = a.marks.now } in
    c.lay_words_to.ensures.written a.how.form a.how.size l
    (subst (λ (n : ℕ). AreChosen a.how.form a.how.size l c.in-Ok.size (take n c.choose_words_to.new.list))
    (sym (c.from.ensures ∙ c.data_count.ensures.value)) c.in-Ok.ensures.chosen)

pub returns-in-Ok-clause-plain : goal.returns-in-Ok-clause-plain
returns-in-Ok-clause-plain c = λ fit.
    let a = c.args in
    let l : ContentView = record { head = a.head; items = a.items.now; marks = a.marks.now } in
    form_written_is_plain a.how.form a.how.size l _
    (record { head = c.requires.head; items = fit; marks = c.requires.in_order })
    (returns-in-Ok-clause-written c)
