use Rattle.ecc200_calls.proofs.Names.{◌≡◌, ◌+◌, ◌*◌, ◌<◌, ℕ, get_or, IsSymbol, module_at, is_dark}
use Rattle.ecc200_calls.proofs.modules.put_modules.Given as goal

-- The rows above this one are put.
abbrev pub invariant-loop-row : goal.invariant-loop-row
invariant-loop-row g l = record {
  above : (r c : ℕ) → r < l.row → c < l.symbol.size.columns →
      module_at l.symbol r c ≡ is_dark (get_or l.modules (r * l.symbol.size.columns + c) 0);
  size : l.symbol.size ≡ l.initial.symbol.size;
  well : IsSymbol l.symbol;
  last : l.row-end ≡ l.symbol.size.rows;
  across : l.columns ≡ l.symbol.size.columns;
}
