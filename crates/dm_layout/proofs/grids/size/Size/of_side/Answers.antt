use Rattle.std.proofs.Common.{rules, sym, ◌∙◌}
use Rattle.dm_layout.proofs.SquareSizes.{no_square, one_square}
use Rattle.dm_layout.proofs.grids.size.Size.of_side.Goals as goal

pub returns-in_err-of : goal.returns-in_err-of
returns-in_err-of c = let none = sym (no_square c.args.side (sym c.in_err-of.ensures)) in search rules

pub returns : goal.returns
returns c = c.of_symbol.ensures.value ∙ sym (one_square c.args.side c.in_ok-of.field-0 (sym c.in_ok-of.ensures))
