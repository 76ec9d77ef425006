use Rattle.std.proofs.Common.{refl}
use Rattle.dm_code.proofs.LinearLaws.{solves_last, last_pivot}
use Rattle.dm_code.proofs.system.last_unknown.Goals as goal

pub returns-in-Some-clause-none : goal.returns-in-Some-clause-none
returns-in-Some-clause-none c v s =
    let p = c.in-Some.ensures in last_pivot c.args.rows.now 34 c.in-Some.field-0 v p.0 p.1 p.2 s

pub returns-in-None-clause-solution : goal.returns-in-None-clause-solution
returns-in-None-clause-solution c = solves_last c.args.rows.now 34 _ refl c.in-None.ensures
