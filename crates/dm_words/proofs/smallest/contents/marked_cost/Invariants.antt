use Rattle.dm_words.proofs.Names.{◌≡◌, ℕ, ◌+◌, ◌*◌, ◌<◌, ◌≤◌, length, drop, get_or, IsMessage, behind_first, first_end}
use Rattle.dm_words.proofs.smallest.contents.marked_cost.Given as goal

-- From the mark at the index on, the codewords are counted, and those behind each mark are kept.
abbrev pub invariant-loop-k : goal.invariant-loop-k
invariant-loop-k l = record {
  in_range : l.k ≤ length l.marks;
  steps : length l.items < length l.plan;
  room : length l.marks ≤ length l.behind;
  within : l.end ≤ length l.items;
  message : IsMessage (drop l.end l.items);
  end_is : l.end ≡ first_end l.seen l.items (drop l.k l.marks);
  cost : l.cost ≡ behind_first l.seen l.items (drop l.k l.marks);
  few : l.cost + 2 * l.end + 4 * l.k ≤ 2 * length l.items + 4 * length l.marks;
  behind : (i : ℕ) → l.k ≤ i → i < length l.marks
      → get_or l.behind i 0 ≡ behind_first l.seen l.items (drop i l.marks);
}
