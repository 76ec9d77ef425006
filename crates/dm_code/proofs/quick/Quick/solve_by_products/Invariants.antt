use Rattle.std.proofs.Common.{◌≡◌, ◌+◌, ◌*◌, ◌<◌, ◌≤◌, ℕ, length}
use Rattle.gf301.specs.Polynomial.{coefficient}
use Rattle.dm_code.proofs.BerlekampMassey.{IsSearch}
use Rattle.dm_code.proofs.LocatorProducts.{HasProduct}
use Rattle.dm_code.proofs.quick.Quick.solve_by_products.Given as goal

abbrev pub invariant-loop-n : goal.invariant-loop-n
invariant-loop-n l = record {
  search : IsSearch l.s l.state.locator l.state.earlier l.state.inverse.0 l.state.gap l.state.degree l.n;
  within : l.state.degree ≤ l.t;
  products : l.counts.products ≤ l.n * (4 * length l.s);
  room : l.counts.products ≤ l.n * 105;
  inversions : l.counts.inversions ≤ l.n;
  some_products : 0 < l.state.degree → length l.s + 3 ≤ l.counts.products;
  some_inversion : 0 < l.state.degree → 0 < l.counts.inversions;
  product : HasProduct (length l.s) l.state.locator l.s l.products.product;
  earlier : HasProduct (length l.s) l.state.earlier l.s l.products.earlier;
  zeros : (i : ℕ) → length l.s ≤ i → coefficient l.products.earlier i ≡ 0;
}
