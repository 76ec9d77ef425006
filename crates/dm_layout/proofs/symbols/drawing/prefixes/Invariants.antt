use Rattle.std.proofs.Common.{◌≡◌, ℕ, ◌+◌, ◌-◌, ◌*◌, ◌^◌, ◌<◌, get_or, length}
use Rattle.dm_layout.proofs.symbols.drawing.prefixes.Given as goal

abbrev pub invariant-loop-region : goal.invariant-loop-region
invariant-loop-region l = record {
  count : length l.prefixes ≡ 5;
  so_far : (region : ℕ) → region < l.region → get_or l.prefixes region 0 ≡
      2 ^ (region * (l.region_columns + 2) + 1 + l.region_columns) - 1;
}
