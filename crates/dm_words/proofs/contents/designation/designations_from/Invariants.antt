use Rattle.dm_words.proofs.Names.{◌≡◌, ◌-◌, ◌≤◌, length, take, AreMarksAt}
use Rattle.dm_words.proofs.DesignationLoops.{AreTaken}
use Rattle.dm_words.proofs.contents.designation.designations_from.Given as goal

abbrev pub invariant-loop-count : goal.invariant-loop-count
invariant-loop-count l = record {
  in_range : l.at ≤ length l.words;
  marked : l.marked ≤ length l.marks;
  same : length l.marks ≡ length l.fn.marks;
  so_far : AreMarksAt l.words l.at (take l.marked l.marks);
  taken : AreTaken l.words l.start l.at (take l.marked l.marks);
}

abbrev pub decreases-loop-count : goal.decreases-loop-count
decreases-loop-count l = length l.words - l.at
