use Rattle.dm_layout.proofs.Names.{◌≡◌, ℕ, ◌<◌, length, get_or, SizeEntry, size_table}
use Rattle.dm_layout.proofs.symbols.size.table.Given as goal

abbrev pub invariant-loop-i : goal.invariant-loop-i
invariant-loop-i l = record {
  count : length l.sizes ≡ 48;
  put : (k : ℕ) (d : SizeEntry) → k < l.i → get_or l.sizes k d ≡ get_or size_table k d;
}
