use Rattle.dm_layout.proofs.Names.{refl, words_with}
use Rattle.dm_layout.proofs.symbols.LaidModules.{one_held}
use Rattle.dm_layout.proofs.symbols.placing.lift_to.Goals as goal

pub returns-clause-holds : goal.returns-clause-holds
returns-clause-holds c = record {
  symbol = c.lift_list.ensures.modules;
  codewords = c.lift_list.ensures.words;
  same_size = refl;
  bits = c.lift_list.ensures.holds;
}

pub returns-clause-no_other_words : goal.returns-clause-no_other_words
returns-clause-no_other_words c =
    λ other holds. one_held c.args.symbol.now other (words_with c.args.symbol.now.size c.lift_list.new.words) holds
    (returns-clause-holds c)
