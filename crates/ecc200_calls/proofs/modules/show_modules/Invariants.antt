use Rattle.ecc200_calls.proofs.Names.{◌≡◌, ◌*◌, drop, length, map, take, flat_map, area, module_of}
use Rattle.ecc200_calls.proofs.modules.show_modules.Given as goal

-- The rows above this one are written.
abbrev pub invariant-loop-row : goal.invariant-loop-row
invariant-loop-row g l = record {
  prefix : take (l.row * l.symbol.size.columns) l.all ≡ flat_map (map module_of) (take l.row l.symbol.rows);
  behind : drop (area l.symbol.size) l.all ≡ drop (area l.symbol.size) l.initial.all;
  room : length l.all ≡ length l.initial.all;
  last : l.row-end ≡ l.symbol.size.rows;
}
