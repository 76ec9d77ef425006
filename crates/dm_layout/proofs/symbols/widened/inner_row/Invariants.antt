use Rattle.dm_layout.proofs.Names.{◌≡◌, ℕ, ◌*◌, ◌^◌, ◌<◌, symbol_line, is_dark_bit}
use Rattle.dm_layout.proofs.symbols.widened.inner_row.Given as goal

abbrev pub invariant-loop-region : goal.invariant-loop-region
invariant-loop-region l = record {
  narrow : l.inner < 2 ^ (l.region * l.region_columns);
  so_far : (c : ℕ) → c < l.region * l.region_columns →
      is_dark_bit l.inner c ≡ is_dark_bit l.row (symbol_line l.region_columns c);
}
