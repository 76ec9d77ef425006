use Rattle.dm_words.proofs.Names.{◌≡◌, ◌+◌, ◌-◌, ◌*◌, ◌≤◌, length, take, drop, content_on, items_with, IsContentAt}
use Rattle.dm_words.proofs.contents.reading.add_content_parts.Given as goal

abbrev pub invariant-loop-count : goal.invariant-loop-count
invariant-loop-count l = record {
  in_range : l.at ≤ length l.words;
  held : l.held ≤ length l.items;
  marked : l.marked ≤ length l.marks;
  same : length l.items ≡ length l.fn.items;
  same_marks : length l.marks ≡ length l.fn.marks;
  content : IsContentAt (length l.fn.items) l.words l.at (items_with (take l.marked l.marks) (take l.held l.items));
  count : l.held + 2 * l.start ≤ l.fn.held + 2 * l.at;
  so_far : content_on l.extent (items_with (take l.marked l.marks) (take l.held l.items)) (l.at + 1) (drop l.at l.words)
      ≡ content_on l.extent (items_with (take l.fn.marked l.fn.marks) (take l.fn.held l.fn.items)) (l.start + 1)
      (drop l.start l.words);
}

abbrev pub decreases-loop-count : goal.decreases-loop-count
decreases-loop-count l = length l.words - l.at
