use Rattle.dm_layout.proofs.Names.{subst, IsRow}
use Rattle.dm_layout.proofs.TableRows.{row_facts}
use Rattle.dm_layout.proofs.grids.size.Size.block_data.Goals as goal

pub returns-clause-some : goal.returns-clause-some
returns-clause-some c = (row_facts c.args.self (subst IsRow c.self.view_is c.self.invariant.row)).some_data

pub returns-clause-length : goal.returns-clause-length
returns-clause-length c = (row_facts c.args.self (subst IsRow c.self.view_is c.self.invariant.row)).parts
