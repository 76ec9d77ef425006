use Rattle.dm_code.proofs.BerlekampMassey.{one_before_zeros}
use Rattle.dm_code.proofs.quick.Search.new.Goals as goal

pub returns-clause-locator : goal.returns-clause-locator
returns-clause-locator c = one_before_zeros 95

pub returns-clause-earlier : goal.returns-clause-earlier
returns-clause-earlier c = one_before_zeros 47
