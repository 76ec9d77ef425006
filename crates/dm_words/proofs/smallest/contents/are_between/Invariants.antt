use Rattle.dm_words.proofs.Names.{ℕ, ◌<◌, ◌≤◌, get_or}
use Rattle.dm_words.proofs.smallest.contents.are_between.Given as goal

-- The marks so far stand between the two places.
abbrev pub invariant-loop-mark : goal.invariant-loop-mark
invariant-loop-mark l = (i : ℕ) → i < l.mark-index
    → (l.least ≤ (get_or l.marks i (record { place = 0; number = 0 })).place)
    × ((get_or l.marks i (record { place = 0; number = 0 })).place ≤ l.most)
