use Rattle.std.proofs.Common.{◌≡◌, ◌+◌, ◌*◌, ◌++◌, length, take}
use Rattle.dm_text.specs.Answers.{grid_text}
use Rattle.dm_text.proofs.printed.push_grid.Given as goal

abbrev pub invariant-loop-row : goal.invariant-loop-row
invariant-loop-row l = record {
  text : l.text.items ≡ l.initial.text.items ++ grid_text (take l.row l.grid.rows);
  room : length l.text.items ≡ length l.initial.text.items + l.row * (l.grid.size.side + 1);
  side : l.row-end ≡ l.grid.size.side;
}
