use Rattle.dm_layout.proofs.Squares.{laid_somewhere, one_laid}
use Rattle.dm_layout.proofs.laws.holding.codewords_are_laid_in_a_grid.Goals as goal

pub returns : goal.returns
returns c = record { some = laid_somewhere; one = one_laid }
