use Rattle.ecc200_calls.proofs.Names.{◌∙◌, ℕ, Err, TooLong, arith, length-take, subst, sym, take}
use Rattle.dm_words.specs.Contents.{ContentView}
use Rattle.dm_symbol.specs.WrittenContent.{AreChosen}
use Rattle.ecc200_calls.proofs.writing.write_content.Goals as goal

pub show_chosen-requires : goal.show_chosen-requires
show_chosen-requires c =
    omega (arith, c.from.ensures, c.data_count.ensures.value, c.data_count.ensures.most, length-take {A = ℕ})

pub returns-in-Ok : goal.returns-in-Ok
returns-in-Ok c =
    let how = c.args.how in
    let l : ContentView = record { head = c.args.head; items = c.args.items.now; marks = c.args.marks.now } in
    c.show_chosen.ensures how.form how.size l
    (subst (λ (n : ℕ). AreChosen how.form how.size l c.in-Ok.size (take n c.choose_words_to.new.list))
    (sym (c.from.ensures ∙ c.data_count.ensures.value)) c.in-Ok.ensures.chosen)

pub returns-in-Err : goal.returns-in-Err
returns-in-Err c = record {
  result = Err (let none : TooLong = record {} in none);
  written = c.in-Err.ensures.none (record {});
  shown = cc;
}
