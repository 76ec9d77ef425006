use Rattle.std.proofs.Common.{List, ℕ, ◌++◌, ◌-◌, ◌≤◌, length, take}
use Rattle.dm_text.specs.Texts.{HasNoLf}
use Rattle.dm_text.specs.LineFacts.{AreLineFacts}
use Rattle.dm_text.proofs.open_line.OpenLine.take_to_lf.Given as goal

abbrev pub invariant-loop-at : goal.invariant-loop-at
invariant-loop-at l = record {
  within : l.at ≤ length l.bytes;
  no_lf : HasNoLf (take l.at l.bytes);
  grown : (line : List ℕ) → AreLineFacts line l.initial.self → AreLineFacts (line ++ take l.at l.bytes) l.self;
}

abbrev pub decreases-loop-at : goal.decreases-loop-at
decreases-loop-at l = length l.bytes - l.at
