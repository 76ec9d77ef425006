use Rattle.dm_words.proofs.Names.{◌≡◌, ◌+◌, ◌-◌, ◌*◌, ◌≤◌, List, length, take, drop, Extent, Mark, items_with}
use Rattle.dm_words.proofs.Names.{content_on}
use Rattle.dm_words.proofs.reading.one_word_parts.Given as goal

abbrev pub invariant-loop-word : goal.invariant-loop-word
invariant-loop-word l = record {
  from : l.start ≤ l.at;
  in_range : l.at ≤ length l.words;
  room : l.count + 2 * l.start ≤ l.fn.held + 2 * l.at;
  no_fewer : l.fn.held ≤ l.count;
  within : l.count ≤ length l.items;
  same : length l.items ≡ length l.fn.items;
  said : (extent : Extent) (marks : List Mark)
      → content_on extent (items_with marks (take l.count l.items)) (l.at + 1) (drop l.at l.words)
      ≡ content_on extent (items_with marks (take l.fn.held l.fn.items)) (l.start + 1) (drop l.start l.words);
}

abbrev pub decreases-loop-word : goal.decreases-loop-word
decreases-loop-word l = length l.words - l.at
