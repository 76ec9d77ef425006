use Rattle.std.proofs.Common.{◌-◌, ◌*◌, length, get_or, map, take, drop, replicate, bit_and, ap, ◌∙◌, arith}
use lib.Lanes.{zip2}
use Rattle.gf301.specs.declared.product_rows.TheConstants.{LOW, HIGH}
use Rattle.gf301.proofs.ProductRows.{low_read, high_read, down, low_places, high_places, scaled_lanes}
use Rattle.gf301.proofs.lanes.scale.Goals as goal

pub by_table-low-requires : goal.by_table-low-requires
by_table-low-requires c = low_places c.args.v c.fits-v.0

pub by_table-high-requires : goal.by_table-high-requires
by_table-high-requires c = high_places c.args.v c.fits-v.0 c.fits-v.1

pub returns : goal.returns
returns c =
    let v = c.args.v in
    let low = zip2 bit_and v (replicate 16 15) in
    let high = zip2 down v (replicate 16 4) in
    scaled_lanes c.args.c v c.by_table-low.result c.by_table-high.result c.ranges.c.fits c.fits-v.0 c.fits-v.1
    (c.by_table-low.ensures
    ∙ ap (λ n. map (λ i. get_or (take 16 (take (length LOW - 16 * n) (drop (16 * n) LOW))) i 0) low) c.from-row.ensures
    ∙ ap (λ t. map (λ i. get_or t i 0) low) (low_read c.args.c (omega arith)))
    (c.by_table-high.ensures
    ∙ ap (λ n. map (λ i. get_or (take 16 (take (length HIGH - 16 * n) (drop (16 * n) HIGH))) i 0) high)
    c.from-row.ensures
    ∙ ap (λ t. map (λ i. get_or t i 0) high) (high_read c.args.c (omega arith)))
