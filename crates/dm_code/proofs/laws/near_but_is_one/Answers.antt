use Rattle.dm_code.proofs.ErasedPlaces.{near_but_one, near_but_none, near_none_but}
use Rattle.dm_code.proofs.laws.near_but_is_one.Goals as goal

pub returns-clause-one : goal.returns-clause-one
returns-clause-one c = near_but_one

pub returns-clause-none : goal.returns-clause-none
returns-clause-none c k w o = (near_but_none k w o, near_none_but k w o)
