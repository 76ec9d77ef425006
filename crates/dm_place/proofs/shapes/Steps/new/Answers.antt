use Rattle.std.proofs.Common.{◌≡◌, ◌+◌, ◌-◌, ℕ, ap, arith, flat_map}
use Rattle.std.specs.List.{range_with_len}
use Rattle.dm_place.specs.Placement.{shapes, shapes_of_sum}
use Rattle.dm_place.proofs.shapes.Steps.new.Goals as goal

pub returns-clause-left : goal.returns-clause-left
unfolding shapes
returns-clause-left c =
    let e : c.args.rows + c.args.columns - 1 - 0 ≡ c.args.rows + c.args.columns - 1 = omega arith in
    ap (λ (k : ℕ). flat_map (shapes_of_sum c.args.rows c.args.columns) (range_with_len 0 k)) e
