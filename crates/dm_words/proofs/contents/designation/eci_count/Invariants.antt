use Rattle.dm_words.proofs.Names.{◌≡◌, ◌+◌, ◌≤◌, drop, eci_count}
use Rattle.dm_words.proofs.contents.designation.eci_count.Given as goal

-- The words before this one have so many.
abbrev pub invariant-loop-word : goal.invariant-loop-word
invariant-loop-word l = record {
  words : eci_count l.words ≡ l.count + eci_count (drop l.word-index l.words);
  few : l.count ≤ l.word-index;
}
