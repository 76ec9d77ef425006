use Rattle.std.proofs.Common.{◌≡◌, ◌-◌}
use Rattle.gf301.specs.Generator.{generator}
use Rattle.gf301.proofs.generators.generator.Given as goal

abbrev pub invariant-loop-i : goal.invariant-loop-i
invariant-loop-i l = l.product.items ≡ generator (l.i - 1)
