use Rattle.dm_layout.proofs.symbols.LaidModules.{one_held, some_held}
use Rattle.dm_layout.proofs.symbols.laws.holding.modules_hold_codewords.Goals as goal

pub returns-clause-some : goal.returns-clause-some
returns-clause-some c = some_held

pub returns-clause-one : goal.returns-clause-one
returns-clause-one c = one_held
