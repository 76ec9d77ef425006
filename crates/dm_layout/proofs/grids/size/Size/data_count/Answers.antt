use Rattle.dm_layout.proofs.Names.{subst, IsRow}
use Rattle.dm_layout.proofs.TableRows.{row_facts}
use Rattle.dm_layout.proofs.grids.size.Size.data_count.Goals as goal

pub returns-clause-most : goal.returns-clause-most
returns-clause-most c = (row_facts c.args.self (subst IsRow c.self.view_is c.self.invariant.row)).data_fits

pub returns-clause-dealt : goal.returns-clause-dealt
returns-clause-dealt c = (row_facts c.args.self (subst IsRow c.self.view_is c.self.invariant.row)).data_dealt
