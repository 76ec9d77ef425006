use Rattle.dm_symbol.proofs.DealtAnew.{dealt_anew, erased_anew}
use Rattle.dm_symbol.proofs.laws.symbols.the_other_dealing_restarts.Goals as goal

pub returns-clause-blocks : goal.returns-clause-blocks
returns-clause-blocks c = dealt_anew

pub returns-clause-erased : goal.returns-clause-erased
returns-clause-erased c = erased_anew
