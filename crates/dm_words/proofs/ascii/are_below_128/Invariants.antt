use Rattle.dm_words.proofs.Names.{◌+◌, ◌<◌, ◌≤◌, length, drop, ascii}
use Rattle.dm_words.proofs.ascii.are_below_128.Given as goal

-- As long as no byte was 128 or more, each item so far takes at most one codeword.
abbrev pub invariant-loop-item : goal.invariant-loop-item
invariant-loop-item l = record {
  few : l.most < 128 → length (ascii l.items) ≤ l.item-index + length (ascii (drop l.item-index l.items));
}
