use Rattle.dm_layout.proofs.symbols.LaidModules.{one_laid, some_laid}
use Rattle.dm_layout.proofs.symbols.laws.holding.codewords_are_laid_in_modules.Goals as goal

pub returns-clause-some : goal.returns-clause-some
returns-clause-some c = some_laid

pub returns-clause-one : goal.returns-clause-one
returns-clause-one c = one_laid
