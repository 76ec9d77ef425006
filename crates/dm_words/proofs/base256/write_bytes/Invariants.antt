use Rattle.dm_words.proofs.Names.{◌≡◌, ◌+◌, ◌++◌, map, take, byte_of, random_at, written}
use Rattle.dm_words.proofs.base256.write_bytes.Given as goal

-- The bytes of the items so far are written, and the number is that of the next place.
abbrev pub invariant-loop-item : goal.invariant-loop-item
invariant-loop-item l = record {
  counted : l.held ≡ l.fn.held + l.item-index;
  so_far : take l.held l.words ≡ take l.fn.held l.fn.words
      ++ written (l.fn.held + 1) (map byte_of (take l.item-index l.items));
  number : l.number ≡ random_at (l.held + 1);
}
