use Rattle.dm_layout.proofs.Names.{◌≡◌, ◌≤◌, ◌*◌, ◌+◌, most_columns, sure_faults_in}
use Rattle.dm_layout.proofs.symbols.faults.faults_but.Given as goal

abbrev pub invariant-loop-region : goal.invariant-loop-region
invariant-loop-region g l = record {
  so_far : l.faults ≡ sure_faults_in l.symbol (g.D.Doubt.doubtful l.doubt) 0 (l.region *
      (l.symbol.size.region_rows + 2));
  most : l.faults ≤ l.region * (l.symbol.size.region_rows + 2) * most_columns;
}
