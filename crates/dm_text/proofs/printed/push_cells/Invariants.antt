use Rattle.std.proofs.Common.{◌≡◌, ◌<◌, ◌+◌, ◌-◌, ◌/◌, ◌^◌, ◌++◌, map}
use Rattle.dm_text.specs.Answers.{character_of}
use Rattle.dm_text.specs.inner.OpenRecords.{cells_in}
use Rattle.dm_text.proofs.printed.push_cells.Given as goal

abbrev pub invariant-loop-column : goal.invariant-loop-column
invariant-loop-column l = record {
  within : l.column < l.width + 16;
  rest : l.rest ≡ l.cells / 2 ^ l.column;
  text : l.text.items ≡ l.initial.text.items ++ map character_of (cells_in l.column l.cells);
}

abbrev pub decreases-loop-column : goal.decreases-loop-column
decreases-loop-column l = l.width - l.column
