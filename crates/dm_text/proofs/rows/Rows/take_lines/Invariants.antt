use Rattle.std.proofs.Common.{List, ℕ, [], ◌-◌, ◌≤◌, length, take}
use Rattle.dm_text.specs.inner.OpenRecords.{EndsLines, HoldsLines}
use Rattle.dm_text.proofs.rows.Rows.take_lines.Given as goal

abbrev pub invariant-loop-cells : goal.invariant-loop-cells
invariant-loop-cells l = record {
  within : l.at ≤ length l.bytes;
  ended : (lines : List (List ℕ)) → HoldsLines l.initial.self lines [] → EndsLines l.self lines (take l.at l.bytes);
}

abbrev pub decreases-loop-cells : goal.decreases-loop-cells
decreases-loop-cells l = length l.bytes - l.at
