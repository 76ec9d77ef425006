use Rattle.dm_layout.proofs.Names.{◌≡◌, ◌≤◌, ◌+◌, ◌*◌, ◌%◌, most_columns, most_rows, sure_faults_in}
use Rattle.dm_layout.proofs.symbols.faults.region_faults.Given as goal

abbrev pub invariant-loop-pair : goal.invariant-loop-pair
invariant-loop-pair g l = record {
  so_far : l.faults ≡ sure_faults_in l.symbol (g.D.Doubt.doubtful l.doubt) l.first (2 * l.pair + 1);
  most : l.faults ≤ (2 * l.pair + 1) * most_columns;
  last : l.last ≡ l.symbol.size.region_rows + 1;
  fits : l.first + (l.symbol.size.region_rows + 2) ≤ most_rows;
  least : 6 ≤ l.symbol.size.region_rows;
  even : l.symbol.size.region_rows % 2 ≡ 0;
}
