use Rattle.std.proofs.Common.{◌≡◌, ℕ, ◌<◌, length, get_or}
use Rattle.dm_layout.specs.Sizes.{SizeRow, size_table}
use Rattle.dm_layout.proofs.grids.size.table.Given as goal

abbrev pub invariant-loop-i : goal.invariant-loop-i
invariant-loop-i l = record {
  count : length l.sizes ≡ 21;
  put : (k : ℕ) (d : SizeRow) → k < l.i → get_or l.sizes k d ≡ get_or size_table k d;
}
