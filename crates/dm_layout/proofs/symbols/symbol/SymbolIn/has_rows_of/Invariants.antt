use Rattle.dm_layout.proofs.Names.{◌≡◌, ℕ, ◌<◌, module_at}
use Rattle.dm_layout.proofs.symbols.symbol.SymbolIn.has_rows_of.Given as goal

abbrev pub invariant-loop-row : goal.invariant-loop-row
invariant-loop-row g l =
    (r c : ℕ) → r < l.row → c < l.self.size.columns → module_at l.self r c ≡ module_at l.other r c
