use Rattle.dm_words.proofs.Names.{◌≡◌, ◌-◌, ◌≤◌, length, drop, moved}
use Rattle.dm_words.specs.inner.ContentScan.{first_frame}
use Rattle.dm_words.proofs.contents.opening.first_frame.Given as goal

-- The codewords before the index are empty runs.
abbrev pub invariant-loop-word : goal.invariant-loop-word
invariant-loop-word l = record {
  in_range : l.at ≤ length l.words;
  so_far : first_frame l.words ≡ moved l.at (first_frame (drop l.at l.words));
}

abbrev pub decreases-loop-word : goal.decreases-loop-word
decreases-loop-word l = length l.words - l.at
