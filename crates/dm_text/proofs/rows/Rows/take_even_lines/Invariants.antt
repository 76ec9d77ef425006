use Rattle.std.proofs.Common.{List, ℕ, [], ◌-◌, ◌≤◌, length, take}
use Rattle.dm_text.specs.inner.OpenRecords.{EndsLines, HoldsLines}
use Rattle.dm_text.proofs.rows.Rows.take_even_lines.Given as goal

abbrev pub invariant-loop-line : goal.invariant-loop-line
invariant-loop-line l = record {
  within : l.at ≤ length l.bytes;
  ended : (lines : List (List ℕ)) → HoldsLines l.initial.self lines [] → EndsLines l.self lines (take l.at l.bytes);
}

abbrev pub decreases-loop-line : goal.decreases-loop-line
decreases-loop-line l = length l.bytes - l.at
