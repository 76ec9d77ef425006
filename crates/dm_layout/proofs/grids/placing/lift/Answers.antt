use Rattle.dm_layout.proofs.Names.{lit<, kept_words}
use Rattle.dm_layout.proofs.KeptSymbols.{kept_holds, kept_room}
use Rattle.dm_layout.proofs.Squares.{one_list}
use Rattle.dm_layout.proofs.grids.placing.lift.Goals as goal

pub lift-requires : goal.lift-requires
lift-requires c = (lit< tt, (lit< tt, kept_room c.grid.inside.symbol.size c.grid.invariant))

pub returns-clause-holds : goal.returns-clause-holds
returns-clause-holds c =
    let w = c.lift.result in
    rw c.grid.view_is at (kept_holds c.grid.inside.symbol w c.grid.invariant c.lift.ensures.holds)

pub returns-clause-no_other_words : goal.returns-clause-no_other_words
returns-clause-no_other_words c =
    λ other h. one_list c.args.grid.now other (kept_words c.lift.result) h (returns-clause-holds c)
