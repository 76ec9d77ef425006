use Rattle.dm_symbol.proofs.Names.{◌≡◌, ◌≤◌, ◌∙◌, ℕ, Err, ap, arith, entry_for, length, length-take, length-take-le}
use Rattle.dm_symbol.proofs.Names.{Some, refl, sym, take}
use Rattle.std.proofs.lemmas.List.{take_at}
use borrow.Rule.Slice.PartMut.{post_of}
use Rattle.dm_words.specs.ContentForm.{form_by}
use Rattle.dm_symbol.proofs.ChosenWords.{fits_no_size}
use Rattle.dm_symbol.proofs.WrittenWords.{front_padded, no_words_written}
use Rattle.dm_symbol.proofs.contents.writing.choose_normal_to.Goals as goal

pub returns-in-Err-clause-none : goal.returns-in-Err-clause-none
returns-in-Err-clause-none c = λ why.
    let a = c.args in
    let form = form_by a.profile a.head a.items.now a.marks.now in
    no_words_written a.choice form (Err why) refl
    (fits_no_size a.choice form (omega (arith, c.in-Err.ensures.too_long.0 refl)))

pub add_pads-requires : goal.add_pads-requires
add_pads-requires c = record {
  fits = omega (
    arith,
    c.from.ensures,
    c.data_count.ensures.value,
    c.data_count.ensures.most,
    c.in-Some.ensures.enough,
    length-take {A = ℕ},
  );
  most = omega (arith, length-take {A = ℕ});
}

pub returns-clause-chosen : goal.returns-clause-chosen
returns-clause-chosen c =
    let a = c.args in
    let form = form_by a.profile a.head a.items.now a.marks.now in
    let words = c.content_words_to.new.words in
    let size = c.in-Some.size in
    let is : take c.in-Ok.count words ≡ form = c.in-Ok.ensures.form in
    let many : c.in-Ok.count ≡ length form =
    sym (length-take-le c.in-Ok.count words c.in-Ok.ensures.fits) ∙ ap length is in
    let long : length (take c.from.result words) ≡ size.data_count =
    omega (arith, c.from.ensures, c.data_count.ensures.value, c.data_count.ensures.most, length-take {A = ℕ}) in
    let enough : c.in-Ok.count ≤ c.from.result =
    omega (arith, c.from.ensures, c.data_count.ensures.value, c.in-Some.ensures.enough) in (
      sym (c.in-Some.ensures.value ∙ ap (entry_for a.choice) many),
      take_at c.add_pads.new.words (post_of 0 c.from.result words) size.data_count (omega (arith, long))
          ∙ front_padded c.in-Ok.count c.from.result size.data_count words form c.add_pads.new.words enough is long
          c.add_pads.ensures,
    )
