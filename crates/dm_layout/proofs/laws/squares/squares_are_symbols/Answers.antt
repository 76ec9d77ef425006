use Rattle.dm_layout.proofs.Squares.{grids_are_modules, words_are_codewords}
use Rattle.dm_layout.proofs.laws.squares.squares_are_symbols.Goals as goal

pub returns : goal.returns
returns c = record { grids = grids_are_modules; words = words_are_codewords }
