use Rattle.dm_words.proofs.Names.{◌≡◌, ◌-◌, ◌+◌, ◌++◌, length, take, padded, further_pads}
use Rattle.dm_words.proofs.pad.add_pads.Given as goal

-- The pads that are left stand behind those so far.
abbrev pub invariant-loop-held : goal.invariant-loop-held
invariant-loop-held l = record {
  so_far : padded (take l.fn.held l.fn.words) (length l.fn.words)
      ≡ take l.held l.words ++ further_pads (l.held + 1) (length l.fn.words - l.held);
}

abbrev pub decreases-loop-held : goal.decreases-loop-held
decreases-loop-held l = length l.words - l.held
