use Rattle.dm_symbol.proofs.symbol.inspection.inspect_symbol_to.Goals as goal

pub returns-in-None : goal.returns-in-None
returns-in-None g c = rw c.in-None.is (rw c.borrowed-symbol.ensures at c.inspect.ensures)

pub returns-in-Some : goal.returns-in-Some
returns-in-Some g c =
    rw c.in-Some.is (rw (c.borrowed-symbol.ensures, c.borrowed.ensures) at c.inspect-in-Some.ensures)
