use Rattle.std.proofs.Common.{◌+◌, ◌*◌, ◌<◌, ◌≤◌}
use Rattle.dm_code.proofs.BerlekampMassey.{IsSearch}
use Rattle.dm_code.proofs.quick.Quick.solve_counted.Given as goal

abbrev pub invariant-loop-n : goal.invariant-loop-n
invariant-loop-n l = record {
  search : IsSearch l.s l.search.locator l.search.earlier l.search.inverse.0 l.search.gap l.search.degree l.n;
  within : l.search.degree ≤ l.t;
  products : l.meter.products ≤ l.n * (2 * l.t + 3);
  inversions : l.meter.inversions ≤ l.n;
  each_product : l.n ≤ l.meter.products;
  some_inversion : 0 < l.search.degree → 0 < l.meter.inversions;
}
