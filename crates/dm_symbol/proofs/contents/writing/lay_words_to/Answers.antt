use Rattle.dm_symbol.proofs.Names.{refl, IsLaid, first_words}
use Rattle.dm_symbol.proofs.ChosenWords.{chosen_written}
use Rattle.dm_symbol.proofs.contents.writing.lay_words_to.Goals as goal

pub returns : goal.returns
returns g c =
    let words = first_words c.args.size c.complete_in.new.room in
    let is = c.complete_in.ensures in
    let laid : IsLaid words c.lay_to.new.symbol =
    record {
      holds = c.lay_to.ensures.holds;
      border = c.lay_to.ensures.border;
      fixed_square = c.lay_to.ensures.fixed_square;
    } in
    record {
      written = λ form choice content chosen.
          chosen_written form choice content c.args.size c.args.list.now c.lay_to.new.symbol words chosen refl
          is.data_words is.checked laid;
      laid = (words.list, laid, is.data_words, is.checked);
    }
