use Rattle.dm_layout.proofs.symbols.LaidModules.{one_held, one_laid}
use Rattle.dm_layout.proofs.symbols.placing.lay_to.Goals as goal

pub returns-clause-no_other_modules : goal.returns-clause-no_other_modules
returns-clause-no_other_modules g c =
    λ other laid. one_laid c.args.words.now other c.lay_from.new.self laid c.lay_from.ensures

pub returns-clause-no_other_words : goal.returns-clause-no_other_words
returns-clause-no_other_words g c =
    λ other holds. one_held c.lay_from.new.self other c.args.words.now holds c.lay_from.ensures.holds
