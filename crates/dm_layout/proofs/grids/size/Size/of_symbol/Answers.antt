use Rattle.std.proofs.Common.{sym, ◌∙◌, arith}
use Rattle.dm_layout.proofs.SquareSizes.{kept_size}
use Rattle.dm_layout.proofs.grids.size.Size.of_symbol.Goals as goal

pub invariant_of-result : goal.invariant_of-result
invariant_of-result c =
    kept_size c.args.symbol c.rows-side.ensures.size
    (sym c.rows-side.ensures.value ∙ c.if-side-columns.true ∙ c.columns.ensures.value) (omega arith)

pub returns-then-side-le-LARGEST_SIDE-clause-same : goal.returns-then-side-le-LARGEST_SIDE-clause-same
returns-then-side-le-LARGEST_SIDE-clause-same c = (invariant_of-result c).same
