use Rattle.std.proofs.Common.{sym, subst}
use Rattle.dm_layout.specs.symbols.Holding.{IsLaid}
use Rattle.dm_layout.proofs.KeptSymbols.{kept_is_grid, same_symbol}
use Rattle.dm_layout.proofs.SquareSizes.{kept_size}
use Rattle.dm_layout.proofs.grids.placing.lay_symbol_to.Goals as goal

pub invariant_of-grid : goal.invariant_of-grid
invariant_of-grid c =
    let held = c.lay_to.ensures.holds in
    rw held.same_size at (kept_size c.args.words.now.size held.codewords.size c.requires.square c.requires.fits)

pub returns-clause-laid : goal.returns-clause-laid
returns-clause-laid c =
    let e = c.lay_to.ensures in
    subst (IsLaid c.args.words.now) (sym (same_symbol c.lay_to.new.symbol (invariant_of-grid c)))
    (record { holds = e.holds; border = e.border; fixed_square = e.fixed_square })

pub returns-clause-grid : goal.returns-clause-grid
returns-clause-grid c =
    kept_is_grid c.lay_to.new.symbol (invariant_of-grid c) c.lay_to.ensures.holds.symbol
