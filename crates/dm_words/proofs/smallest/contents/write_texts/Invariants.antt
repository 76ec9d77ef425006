use Rattle.dm_words.proofs.Names.{◌≡◌, ◌+◌, ◌<◌, ◌≤◌, length, drop, take, AreMarks, marked_cost, AreSaid, first_text}
use Rattle.dm_words.proofs.Names.{KeepsSign}
use Rattle.dm_words.proofs.smallest.contents.write_texts.Given as goal

-- The items before the index and the marks so far are written, and the others are paid.
abbrev pub invariant-loop-k : goal.invariant-loop-k
invariant-loop-k l = record {
  within : l.from ≤ length l.items;
  steps : length l.items < length l.plan;
  in_order : AreMarks (l.seen + l.from) (l.seen + length l.items) (drop l.k l.marks);
  said : AreSaid (length l.fn.words) (take l.fn.held l.fn.words) (take l.held l.words) l.seen (take l.from l.items)
      (take l.k l.marks);
  budget : l.held + marked_cost (l.seen + l.from) (drop l.from l.items) (drop l.k l.marks) ≤ length l.words;
  first : l.k ≡ 0 → (l.from ≡ 0) × (take l.held l.words ≡ take l.fn.held l.fn.words);
  sign : 0 < l.k → KeepsSign (take l.fn.held l.fn.words) (take l.held l.words) (first_text l.seen l.items l.marks);
}
