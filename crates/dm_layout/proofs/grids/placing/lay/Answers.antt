use Rattle.dm_layout.proofs.Names.{◌≡◌, subst, SymbolView, IsLaid, IsKept, kept_grid, kept_words}
use Rattle.dm_layout.specs.symbols.Words as symbols
use Rattle.dm_layout.specs.symbols.Holding as holding
use Rattle.dm_layout.specs.Words.{WordsView}
use Rattle.dm_layout.proofs.KeptSymbols.{kept_laid}
use Rattle.dm_layout.proofs.Squares.{one_laid, one_list}
use Rattle.dm_layout.proofs.grids.placing.lay.Goals as goal

-- The codewords are laid in the grid that is kept as the symbol they are laid in.
laid : (m : SymbolView) (w : symbols.WordsView) (words : WordsView) → IsKept w.size → kept_words w ≡ words →
    holding.IsLaid w m → IsLaid words (kept_grid m)
laid m w words k e h =
    subst (λ v. IsLaid v (kept_grid m)) e (kept_laid m w (subst IsKept h.holds.same_size k) h)

pub returns-clause-no_other_grid : goal.returns-clause-no_other_grid
returns-clause-no_other_grid c =
    let e = c.lay_to.ensures in
    let all : holding.IsLaid c.words.inside.symbol c.lay_to.new.symbol =
    record { holds = e.holds; border = e.border; fixed_square = e.fixed_square } in
    λ other h.
    one_laid c.args.words.now other (kept_grid c.lay_to.new.symbol) h
    (laid c.lay_to.new.symbol c.words.inside.symbol c.args.words.now c.words.invariant c.words.view_is all)

pub returns-clause-no_other_words : goal.returns-clause-no_other_words
returns-clause-no_other_words c =
    let e = c.lay_to.ensures in
    let all : holding.IsLaid c.words.inside.symbol c.lay_to.new.symbol =
    record { holds = e.holds; border = e.border; fixed_square = e.fixed_square } in
    λ other h.
    one_list (kept_grid c.lay_to.new.symbol) other c.args.words.now h
    (laid c.lay_to.new.symbol c.words.inside.symbol c.args.words.now c.words.invariant c.words.view_is all).holds
