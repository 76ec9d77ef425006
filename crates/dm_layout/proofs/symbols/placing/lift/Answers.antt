use Rattle.dm_layout.proofs.Names.{first_words}
use Rattle.dm_layout.proofs.symbols.LaidModules.{one_held}
use Rattle.dm_layout.proofs.symbols.placing.lift.Goals as goal

pub returns-clause-no_other_words : goal.returns-clause-no_other_words
returns-clause-no_other_words g c = λ other holds.
    rw c.size-size.ensures.value (one_held c.args.symbol.now other
    (first_words c.args.symbol.now.size c.lift_in.new.room) holds (rw c.borrowed.ensures at c.lift_in.ensures))
