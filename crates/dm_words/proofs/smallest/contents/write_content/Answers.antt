use Rattle.dm_words.proofs.Names.{◌≡◌, ◌∙◌, ℕ, List, [], ◌∷◌, ◌++◌, length, take, ap, sym, subst, arith, length-append}
use Rattle.dm_words.proofs.Names.{head_words, ascii_with_marks, content_form, macro_text, BeginsFnc1, view_of}
use Rattle.dm_words.proofs.Names.{length-take, AreSaid, Ascii, nat_tests}
use Rattle.dm_words.proofs.MarkedCosts.{inner_few, inner_items, start_at}
use Rattle.dm_words.proofs.PlainForms.{ascii_plain, form_is, framed_form, headed_form}
use Rattle.dm_words.proofs.smallest.contents.write_content.Goals as goal

pub write_texts-requires-in-Some : goal.write_texts-requires-in-Some
write_texts-requires-in-Some c = grind (arith, nat_tests, inner_items, inner_few)

pub returns-in-None-clause-written : goal.returns-in-None-clause-written
returns-in-None-clause-written c =
    let items = c.args.items.now in
    let marks = c.args.marks.now in
    let base = take c.add_words.new.held c.add_words.new.words in
    let new = take c.write_texts.new.held c.write_texts.new.words in
    let same : length c.add_words.new.words ≡ length c.args.words.now = omega arith in
    let base_is : base ≡ head_words c.args.head = c.add_words.ensures.added ∙ c.as_slice.ensures.value
    ∙ c.head_words.ensures in
    headed_form _ base new _ items marks (record {
      head = c.requires.head;
      items = c.requires.message;
      marks = c.requires.in_order;
    }) base_is
    (rw same at c.write_texts.ensures.said)
    c.write_texts.ensures.sign (omega (arith, c.write_texts.ensures.fits, length-take {A = ℕ}))

pub returns-in-Some-clause-written : goal.returns-in-Some-clause-written
returns-in-Some-clause-written c =
    let items = c.args.items.now in
    let marks = c.args.marks.now in
    let way = rw c.in-Some.is at c.requires.way in
    let m = way.0.is_macro in
    let base = take c.add.new.held c.add.new.list in
    let new = take c.write_texts-in-Some.new.held c.write_texts-in-Some.new.words in
    let same : length c.add.new.list ≡ length c.args.words.now = omega arith in
    rw (sym way.0.no_head) at (framed_form (length c.args.words.now) c.in-Some.word m.digit base new items
    c.inner-text.result.now marks
    (record { head = tt; items = c.requires.message; marks = c.requires.in_order })
    m.is_macro (m.framed ∙ ap (macro_text m.digit) (sym c.inner-text.ensures))
    c.add.ensures.added (rw same at c.write_texts-in-Some.ensures.said)
    (start_at 7 _ marks way.0.marks) (λ b. m.no_fnc1 (subst BeginsFnc1 c.inner-text.ensures b))
    (omega (arith, c.write_texts-in-Some.ensures.fits, length-take {A = ℕ})))

pub returns-then-length-words-clause-written : goal.returns-then-length-words-clause-written
returns-then-length-words-clause-written c =
    let items = c.args.items.now in
    let marks = c.args.marks.now in
    let first = head_words c.args.head in
    let is : take c.write_form.result c.write_form.new.words ≡ content_form Ascii (view_of c.args.head items marks) =
    c.write_form.ensures.written ∙ sym (form_is c.args.head items marks) in
    rw (sym is) at (ascii_plain (view_of c.args.head items marks) (length c.args.words.now) (record {
      head = c.requires.head;
      items = c.requires.message;
      marks = c.requires.in_order;
    })
    (omega (arith, ap length (form_is c.args.head items marks), length-append first (ascii_with_marks 0 items marks))))

pub returns-in-None-clause-ascii : goal.returns-in-None-clause-ascii
returns-in-None-clause-ascii c room = absurd (omega (arith, room, length-append {A = ℕ}))
