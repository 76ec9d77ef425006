use Rattle.ecc200_calls.proofs.Names.{◌≡◌, ◌-◌, ◌+◌, ◌/◌, ◌^◌, ◌<◌, ◌++◌, drop, length, take, unpacked_cells}
use Rattle.ecc200_calls.proofs.modules.unpack_on.Given as goal

-- The cells before this column are unpacked; the rest of the row follows.
abbrev pub invariant-loop-column : goal.invariant-loop-column
invariant-loop-column l = record {
  count : length l.all ≡ length l.initial.all;
  written : take (l.start + l.column) l.all ≡ take l.start l.initial.all ++ unpacked_cells l.column l.cells;
  behind : drop (l.start + l.width + 16) l.all ≡ drop (l.start + l.width + 16) l.initial.all;
  rest : l.rest ≡ l.cells / 2 ^ l.column;
  within : l.column < l.width + 16;
}

abbrev pub decreases-loop-column : goal.decreases-loop-column
decreases-loop-column l = l.width + 16 - l.column
