use Rattle.dm_layout.proofs.Names.{◌≡◌, ℕ, ◌+◌, ◌-◌, ◌*◌, ◌^◌, ◌<◌, ◌≤◌, ◌%◌, List, get_or, set, ap, ◌∙◌, arith}
use Rattle.dm_layout.proofs.Names.{below_more, get_or-set_same, get_or-set_other, mul-le-mul_right, length-set}
use Rattle.dm_layout.proofs.Names.{most_wide}
use Rattle.dm_layout.proofs.symbols.Rows.{weight}
use Rattle.dm_layout.proofs.symbols.drawing.prefixes.Goals as goal

-- Each region but the last ends within the row.
inside : (region across d : ℕ) → region + 1 < across → (across - 1) * (d + 2) ≤ most_wide →
    region * (d + 2) + 1 + d < 128
inside region across d l fits =
    let m : (region + 1) * (d + 2) ≤ (across - 1) * (d + 2) = mul-le-mul_right (d + 2) (omega (arith, l)) in
    let t : (region + 1) * (d + 2) ≡ region * (d + 2) + d + 2 = omega arith in
    omega (arith, m, t, fits)

-- Where the region ends, the weight of a column is kept whole.
ends : (region across d : ℕ) → region < across - 1 → (across - 1) * (d + 2) ≤ most_wide →
    1 * 2 ^ (region * (d + 2) + 1 + d) % 2 ^ 128 ≡ 2 ^ (region * (d + 2) + 1 + d)
ends region across d l fits = weight (region * (d + 2) + 1 + d) (inside region across d (omega (arith, l)) fits)

pub loop-region-preserved : goal.loop-region-preserved
loop-region-preserved c =
    let region : ℕ = c.loop-region.region in
    let d : ℕ = c.args.region_columns in
    let i = c.loop-region.invariant in
    let prefixes : List ℕ = c.loop-region.prefixes in
    let l : region + 1 < c.args.across = omega (arith, c.loop-region-test.true) in
    let w = ends region c.args.across d c.loop-region-test.true c.requires.fits in
    record {
      count = length-set prefixes region _ ∙ i.count;
      so_far =
          below_more (λ k. get_or (set prefixes region _) k 0 ≡ 2 ^ (k * (d + 2) + 1 + d) - 1) region
          (λ k h. get_or-set_other prefixes region k _ 0 (λ e. omega (arith, e, h)) ∙ i.so_far k h)
          (get_or-set_same prefixes region _ 0 (omega (arith, i.count, l, c.requires.few)) ∙ ap (λ (x : ℕ). x - 1) w);
    }
