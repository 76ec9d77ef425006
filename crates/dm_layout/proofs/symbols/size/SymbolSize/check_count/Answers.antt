use Rattle.dm_layout.proofs.Names.{subst, IsSize}
use Rattle.dm_layout.proofs.symbols.TableEntries.{size_facts}
use Rattle.dm_layout.proofs.symbols.size.SymbolSize.check_count.Goals as goal

pub returns-clause-all : goal.returns-clause-all
returns-clause-all c = (size_facts c.args.self (subst IsSize c.self.view_is c.self.invariant)).all

pub returns-clause-most : goal.returns-clause-most
returns-clause-most c = (size_facts c.args.self (subst IsSize c.self.view_is c.self.invariant)).codewords

pub returns-clause-dealt : goal.returns-clause-dealt
returns-clause-dealt c = (size_facts c.args.self (subst IsSize c.self.view_is c.self.invariant)).checks
