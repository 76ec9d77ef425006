use Rattle.dm_symbol.proofs.Names.{◌≡◌, ◌≤◌, ◌∙◌, ◌<◌, ℕ, length, length-take, length-take-le, refl, sym, ap, subst}
use Rattle.dm_symbol.proofs.Names.{Some, arith, rules, take, SizeEntry, codeword_count, first_words, most_grid_data}
use Rattle.dm_symbol.proofs.Names.{row_for_words, symbol_size, symbol_modules, Square, row_facts, normal_form}
use Rattle.dm_symbol.proofs.Names.{AreCodewordsOf, first_data}
use Rattle.dm_symbol.proofs.GridNormals.{is_written, none_is_written, too_long_fits_none}
use Rattle.dm_symbol.proofs.SquareSizes.{same_smallest}
use Rattle.dm_symbol.proofs.WrittenWords.{front_padded, laid_are_written}
use Rattle.dm_symbol.proofs.writing.write_to.Goals as goal

pub returns-in-Err-clause-written : goal.returns-in-Err-clause-written
returns-in-Err-clause-written c =
    let m = c.args.message.now in
    let long : most_grid_data < length (normal_form c.args.profile m) =
    omega (
      arith,
      c.in-Err.ensures.too_long.0 refl,
      ap (λ i. length (normal_form c.args.profile i))
          c.items.ensures.value,
    ) in
    none_is_written c.args.profile m _ refl (too_long_fits_none c.args.profile m long)

pub zeros-words-requires : goal.zeros-words-requires
zeros-words-requires c =
    let few = (row_facts c.size.result c.symbol.ensures.row).codewords in
    (search rules, omega (arith, few, ap codeword_count c.symbol.ensures.value))

pub add_pads-requires : goal.add_pads-requires
add_pads-requires c = record {
  fits = omega (
    arith,
    c.from.ensures,
    c.data_count.ensures.value,
    c.data_count.ensures.most,
    c.in-Some.ensures.enough,
    length-take {A = ℕ},
  );
  most = omega (arith, length-take {A = ℕ});
}

pub resize-requires : goal.resize-requires
resize-requires c =
    let few = (row_facts c.in-Some.size c.symbol-shape.ensures.row).codewords in
    (search rules, omega (arith, few, ap codeword_count c.symbol-shape.ensures.value))

pub complete_in-requires : goal.complete_in-requires
complete_in-requires c =
    let few = (row_facts c.in-Some.size c.symbol-shape.ensures.row).codewords in record {
      room = omega (arith, few, ap codeword_count c.symbol-shape.ensures.value, c.resize.ensures.room);
      count = omega (
        arith,
        c.from.ensures,
        c.data_count.ensures.value,
        c.data_count.ensures.most,
        length-take {A = ℕ},
        ap (λ (s : SizeEntry). s.data_count) c.symbol-shape.ensures.value,
      );
    }

pub returns-clause-written : goal.returns-clause-written
returns-clause-written c =
    let p = c.args.profile in
    let m = c.args.message.now in
    let form = normal_form p m in
    let size = c.in-Some.size in
    let words = c.normal_words_to.new.words in
    let is_form : take c.in-Ok.count words ≡ form = c.in-Ok.ensures.form ∙ ap (normal_form p) c.items.ensures.value in
    let many : c.in-Ok.count ≡ length form =
    sym (length-take-le c.in-Ok.count words c.in-Ok.ensures.fits) ∙ ap length is_form in
    let row : row_for_words (length form) ≡ Some size = sym (c.in-Some.ensures.value ∙ ap row_for_words many) in
    let long : length (take c.from.result words) ≡ size.data_count =
    omega (arith, c.from.ensures, c.data_count.ensures.value, c.data_count.ensures.most, length-take {A = ℕ}) in
    let enough : c.in-Ok.count ≤ c.from.result =
    omega (arith, c.from.ensures, c.data_count.ensures.value, c.in-Some.ensures.enough) in
    let kept = first_words c.symbol-shape.result c.complete_in.new.room in
    let is = c.symbol-shape.ensures.value in
    let front : first_data (symbol_size size) kept.list ≡ c.add_pads.new.words =
    subst (λ s. first_data s kept.list ≡ c.add_pads.new.words) is c.complete_in.ensures.data_words in
    let checked : AreCodewordsOf (symbol_size size) kept.list =
    subst (λ s. AreCodewordsOf s kept.list) is c.complete_in.ensures.checked in
    let grid = c.lay_symbol_to.new.grid in
    is_written p m grid (record {
      is_grid = c.lay_symbol_to.ensures.grid;
      normal = laid_are_written Square form (symbol_modules grid) kept (symbol_size size)
          (same_smallest (length form) size row) is
          (front ∙ front_padded c.in-Ok.count c.from.result size.data_count words form c.add_pads.new.words enough
          is_form long c.add_pads.ensures)
          checked c.lay_symbol_to.ensures.laid;
    })
