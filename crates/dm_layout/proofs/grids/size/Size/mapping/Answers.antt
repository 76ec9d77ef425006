use Rattle.dm_layout.proofs.Names.{subst, IsRow}
use Rattle.dm_layout.proofs.TableRows.{row_facts}
use Rattle.dm_layout.proofs.grids.size.Size.mapping.Goals as goal

pub returns-clause-even : goal.returns-clause-even
returns-clause-even c = (row_facts c.args.self (subst IsRow c.self.view_is c.self.invariant.row)).mapping_even

pub returns-clause-least : goal.returns-clause-least
returns-clause-least c = (row_facts c.args.self (subst IsRow c.self.view_is c.self.invariant.row)).mapping_least
