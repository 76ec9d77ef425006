use Rattle.dm_layout.proofs.Names.{subst, IsRow}
use Rattle.dm_layout.proofs.TableRows.{row_facts}
use Rattle.dm_layout.proofs.grids.size.Size.side.Goals as goal

pub returns-clause-most : goal.returns-clause-most
returns-clause-most c = (row_facts c.args.self (subst IsRow c.self.view_is c.self.invariant.row)).fits
